use Rattle.cells.proofs.CellLaws.{joined}
use Rattle.answers.proofs.row_order.show_mark.Goals as goal

pub returns : goal.returns
returns c = joined c.in_ok-word.ensures c.text.ensures
