use Rattle.cells.proofs.CellLaws.{joined}
use Rattle.rendering.proofs.json_faults.show_place.Goals as goal

pub returns : goal.returns
returns c = joined (rw c.names_event.ensures at c.in_ok-show_if.ensures) (rw c.names_entry.ensures at c.show_if-2.ensures)
