use Rattle.cells.proofs.CellLaws.{joined}
use Rattle.answers.proofs.positions.show_positions.Goals as goal

pub returns : goal.returns
returns c = joined c.in_ok-show_rows.ensures (rw c.finds.ensures at c.show_found.ensures)
