use Rattle.cells.proofs.WrittenLaws.{in_object, joined}
use Rattle.event_lines.proofs.certificates.write_fingerprint.Goals as goal

pub returns : goal.returns
returns c =
    let digest = rw (c.bytes.ensures.value, c.hash-digest.ensures) at c.in_ok-write_hex.ensures in
    in_object c.in_ok-begin_object.ensures (joined digest c.in_ok-write_number.ensures) c.in_ok-end_object.ensures
