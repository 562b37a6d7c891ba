use Rattle.cells.proofs.WrittenLaws.{in_object, joined, named}
use Rattle.event_lines.proofs.values.write_signature.Goals as goal

pub returns : goal.returns
returns c =
    let members = joined c.in_ok-write_guid.ensures (joined c.in_ok-write_hex.ensures c.in_ok-write_certificate.ensures) in
    named c.in_ok-key.ensures (in_object c.in_ok-begin_object.ensures members c.in_ok-end_object.ensures)
