use Rattle.answer_laws.proofs.SecureBootLaws.{version_hashed}
use Rattle.answer_laws.proofs.versions.version_was_hashed.Goals as goal

pub returns-clause-bank : goal.returns-clause-bank
returns-clause-bank c = version_hashed

pub returns-clause-answer : goal.returns-clause-answer
returns-clause-answer c matched alg locality events content first hashed later is answering same =
    version_hashed alg locality events content first hashed later (is.tells alg answering) same
