use Rattle.cells.proofs.CellLaws.{joined}
use Rattle.event_lines.proofs.marks.show_measured.Goals as goal

pub returns : goal.returns
returns c = joined (rw c.measured_word.ensures at c.in_ok-text.ensures) c.show_parts_object.ensures
