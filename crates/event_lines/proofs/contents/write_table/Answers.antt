use Rattle.cells.proofs.WrittenLaws.{in_object, joined}
use Rattle.event_lines.proofs.contents.write_table.Goals as goal

pub returns : goal.returns
returns c =
    in_object c.in_ok-begin_object.ensures
    (joined c.in_ok-write_guid.ensures (joined c.in_ok-write_table_name.ensures c.in_ok-write_address.ensures)) c.in_ok-end_object.ensures
