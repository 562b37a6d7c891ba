use Rattle.cells.proofs.CellLaws.{joined}
use Rattle.answers.proofs.report.show_aggregate.Goals as goal

pub returns : goal.returns
returns c = joined (rw c.aggregate_word.ensures at c.in_ok-word.ensures) c.text.ensures
