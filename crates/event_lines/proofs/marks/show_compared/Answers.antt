use Rattle.cells.proofs.CellLaws.{joined}
use Rattle.event_lines.proofs.marks.show_compared.Goals as goal

pub returns : goal.returns
returns c = joined c.in_ok-show_measured_member.ensures (rw c.confirmed_part.ensures.value at c.show_confirmed.ensures)
