use Rattle.cells.proofs.WrittenLaws.{in_object, joined, named}
use Rattle.event_lines.proofs.brief.write_beginning.Goals as goal

pub returns : goal.returns
returns c =
    let begins = rw c.split_at.ensures.front at c.in_ok-write_hex.ensures in
    let members = joined begins c.in_ok-write_number.ensures in
    named c.in_ok-key.ensures (in_object c.in_ok-begin_object.ensures members c.in_ok-end_object.ensures)
