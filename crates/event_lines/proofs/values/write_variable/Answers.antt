use Rattle.cells.proofs.WrittenLaws.{in_object, joined, named}
use Rattle.event_lines.proofs.values.write_variable.Goals as goal

pub returns : goal.returns
returns c =
    let says = rw c.value_content.ensures.value at c.in_ok-write_says.ensures in
    let members = joined c.in_ok-write_guid.ensures
    (joined c.in_ok-write_wide.ensures (joined c.in_ok-write_hex.ensures (joined c.in_ok-write_rest.ensures says))) in
    named c.in_ok-key.ensures (in_object c.in_ok-begin_object.ensures members c.in_ok-end_object.ensures)
