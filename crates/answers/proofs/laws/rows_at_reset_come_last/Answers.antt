use Rattle.answers.proofs.RowOrderLaws.{reset_last}
use Rattle.answers.proofs.laws.rows_at_reset_come_last.Goals as goal

pub returns : goal.returns
returns c = reset_last
