use Rattle.cells.proofs.CellLaws.{in_object_at}
use Rattle.event_lines.proofs.marks.show_parts_object.Goals as goal

pub returns : goal.returns
returns c = in_object_at c.in_ok-object.ensures c.in_ok-show_parts.ensures c.end.ensures
