use Rattle.cells.proofs.CellLaws.{in_object_at}
use Rattle.rendering.proofs.json_faults.show_fault.Goals as goal

pub returns : goal.returns
returns c = in_object_at c.in_ok-object.ensures c.in_ok-show_told.ensures c.end.ensures
