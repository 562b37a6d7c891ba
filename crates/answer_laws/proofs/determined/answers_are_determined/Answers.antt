use Rattle.answer_laws.proofs.DeterminedLaws.{one_answer, one_version}
use Rattle.answer_laws.proofs.determined.answers_are_determined.Goals as goal

pub returns-clause-secure_boot : goal.returns-clause-secure_boot
returns-clause-secure_boot c = one_answer

pub returns-clause-version : goal.returns-clause-version
returns-clause-version c = one_version
