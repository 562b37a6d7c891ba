use Rattle.cells.proofs.CellLaws.{joined}
use Rattle.boot_texts.proofs.commands.show_command.Goals as goal

pub returns : goal.returns
returns c = joined c.in_ok-number.ensures (joined c.in_ok-show_register.ensures (joined c.in_ok-show_text.ensures c.show_kind.ensures))
