use Rattle.cells.proofs.WrittenLaws.{in_object, joined}
use Rattle.event_lines.proofs.contents.write_partition.Goals as goal

pub returns : goal.returns
returns c =
    let numbers = joined c.in_ok-write_address.ensures
    (joined c.in_ok-write_address-2.ensures (joined c.in_ok-write_address-3.ensures c.in_ok-write_wide.ensures)) in
    in_object c.in_ok-begin_object.ensures (joined c.in_ok-write_guid.ensures (joined c.in_ok-write_guid-2.ensures numbers))
    c.in_ok-end_object.ensures
