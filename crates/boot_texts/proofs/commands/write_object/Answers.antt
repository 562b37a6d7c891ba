use Rattle.cells.proofs.WrittenLaws.{in_object}
use Rattle.boot_texts.proofs.commands.write_object.Goals as goal

pub returns : goal.returns
returns c = in_object c.in_ok-begin_object.ensures c.in_ok-write_text.ensures c.in_ok-end_object.ensures
