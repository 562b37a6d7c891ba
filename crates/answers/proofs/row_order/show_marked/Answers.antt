use Rattle.cells.proofs.CellLaws.{joined}
use Rattle.answers.proofs.row_order.show_marked.Goals as goal

pub returns : goal.returns
returns c = joined c.in_ok-show_register.ensures (joined c.in_ok-show_value.ensures (joined c.in_ok-show_mark.ensures c.text.ensures))
