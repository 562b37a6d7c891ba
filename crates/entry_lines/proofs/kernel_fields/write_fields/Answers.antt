use Rattle.cells.proofs.WrittenLaws.{in_object, named}
use Rattle.entry_lines.proofs.kernel_fields.write_fields.Goals as goal

pub returns : goal.returns
returns c =
    named c.in_ok-key.ensures (in_object c.in_ok-begin_object.ensures c.in_ok-write_each.ensures c.in_ok-end_object.ensures)
