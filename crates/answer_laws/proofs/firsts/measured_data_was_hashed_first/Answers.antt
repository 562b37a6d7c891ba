use Rattle.answer_laws.proofs.HashedLaws.{hashed_first}
use Rattle.answer_laws.proofs.firsts.measured_data_was_hashed_first.Goals as goal

pub returns : goal.returns
returns c = hashed_first
