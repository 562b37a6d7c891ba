use Rattle.cells.proofs.WrittenLaws.{in_array, named}
use Rattle.event_lines.proofs.certificates.write_array.Goals as goal

pub returns : goal.returns
returns c = named c.in_ok-key.ensures (in_array c.in_ok-begin_array.ensures c.in_ok-write_each.ensures c.in_ok-end_array.ensures)
