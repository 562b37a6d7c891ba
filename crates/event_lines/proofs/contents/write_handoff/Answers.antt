use Rattle.cells.proofs.WrittenLaws.{in_array, in_object, joined, named}
use Rattle.event_lines.proofs.contents.write_handoff.Goals as goal

pub returns : goal.returns
returns c =
    let tables = named c.in_ok-key-2.ensures (in_array c.in_ok-begin_array.ensures c.in_ok-write_tables.ensures c.in_ok-end_array.ensures) in
    named c.in_ok-key.ensures
    (in_object c.in_ok-begin_object.ensures (joined c.in_ok-write_description.ensures tables) c.in_ok-end_object.ensures)
