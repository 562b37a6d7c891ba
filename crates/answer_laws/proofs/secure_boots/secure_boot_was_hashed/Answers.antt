use Rattle.answer_laws.proofs.SecureBootLaws.{was_hashed}
use Rattle.answer_laws.proofs.secure_boots.secure_boot_was_hashed.Goals as goal

pub returns-clause-bank : goal.returns-clause-bank
returns-clause-bank c = was_hashed

pub returns-clause-answer : goal.returns-clause-answer
returns-clause-answer c matched alg locality value events hashed later told answering decision same =
    was_hashed alg locality value events hashed later decision (told.tells alg answering) same
