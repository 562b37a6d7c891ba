use Rattle.cells.proofs.WrittenLaws.{in_object, joined, named}
use Rattle.event_lines.proofs.brief.write_brief_variable.Goals as goal

pub returns : goal.returns
returns c =
    let says = rw c.value_content.ensures.value at c.in_ok-write_brief_says.ensures in
    let members = joined c.in_ok-write_guid.ensures
    (joined c.in_ok-write_wide.ensures (joined c.in_ok-write_brief.ensures (joined c.in_ok-write_brief_rest.ensures says))) in
    named c.in_ok-key.ensures (in_object c.in_ok-begin_object.ensures members c.in_ok-end_object.ensures)
