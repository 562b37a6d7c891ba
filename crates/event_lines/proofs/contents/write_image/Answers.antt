use Rattle.cells.proofs.WrittenLaws.{in_object, joined, named}
use Rattle.event_lines.proofs.contents.write_image.Goals as goal

pub returns : goal.returns
returns c =
    let members = joined c.in_ok-write_address.ensures
    (joined c.in_ok-write_address-2.ensures
    (joined c.in_ok-write_address-3.ensures (joined c.in_ok-write_path.ensures c.in_ok-write_rest.ensures))) in
    named c.in_ok-key.ensures (in_object c.in_ok-begin_object.ensures members c.in_ok-end_object.ensures)
