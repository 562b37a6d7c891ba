use Rattle.cells.proofs.CellLaws.{joined}
use Rattle.event_lines.proofs.register_names.show_register.Goals as goal

pub returns : goal.returns
returns c = joined c.in_ok-number.ensures (rw c.register_name.ensures at c.show_register_name.ensures)
