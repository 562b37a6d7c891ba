use Rattle.cells.proofs.CellLaws.{joined}
use Rattle.boot_texts.proofs.commands.show_unknown_command.Goals as goal

pub returns : goal.returns
returns c = joined c.in_ok-word.ensures (joined c.in_ok-show_register.ensures (joined c.in_ok-show_event.ensures c.text.ensures))
