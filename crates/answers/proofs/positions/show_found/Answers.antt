use Rattle.cells.proofs.CellLaws.{joined}
use Rattle.answers.proofs.positions.show_found.Goals as goal

pub returns : goal.returns
returns c = joined c.in_ok-flag_member.ensures (rw c.found_text.ensures at c.text.ensures)
