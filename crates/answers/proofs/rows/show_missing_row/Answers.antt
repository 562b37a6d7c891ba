use Rattle.cells.proofs.CellLaws.{joined}
use Rattle.answers.proofs.rows.show_missing_row.Goals as goal

pub returns : goal.returns
returns c = joined c.in_ok-show_register.ensures (joined c.in_ok-word.ensures c.text.ensures)
