use Rattle.cells.proofs.WrittenLaws.{in_object, joined, named}
use Rattle.event_lines.proofs.contents.write_command.Goals as goal

pub returns : goal.returns
returns c =
    let kind = rw c.command_word.ensures at c.in_ok-write_text.ensures in
    named c.in_ok-key.ensures
    (in_object c.in_ok-begin_object.ensures (joined kind c.in_ok-write_shown.ensures) c.in_ok-end_object.ensures)
