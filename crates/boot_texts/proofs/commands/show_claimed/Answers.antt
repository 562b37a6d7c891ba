use Rattle.cells.proofs.CellLaws.{in_object_at}
use Rattle.boot_texts.proofs.commands.show_claimed.Goals as goal

pub returns : goal.returns
returns c = in_object_at c.in_ok-object.ensures c.in_ok-word_member.ensures c.end.ensures
