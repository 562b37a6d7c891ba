use Rattle.cells.proofs.WrittenLaws.{in_array, in_object, joined, named}
use Rattle.event_lines.proofs.values.write_list.Goals as goal

pub returns : goal.returns
returns c =
    let count = rw c.count.ensures at c.in_ok-write_number.ensures in
    let owners = named c.in_ok-key.ensures (in_array c.in_ok-begin_array.ensures c.in_ok-write_owners.ensures c.in_ok-end_array.ensures) in
    in_object c.in_ok-begin_object.ensures (joined c.in_ok-write_guid.ensures (joined count (joined owners c.in_ok-write_certificates.ensures)))
    c.in_ok-end_object.ensures
