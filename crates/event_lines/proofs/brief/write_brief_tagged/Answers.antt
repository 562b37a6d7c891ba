use Rattle.cells.proofs.WrittenLaws.{in_object, joined, named}
use Rattle.event_lines.proofs.brief.write_brief_tagged.Goals as goal

pub returns : goal.returns
returns c =
    let members = joined c.in_ok-write_number.ensures c.in_ok-write_brief_payload.ensures in
    named c.in_ok-key.ensures (in_object c.in_ok-begin_object.ensures members c.in_ok-end_object.ensures)
