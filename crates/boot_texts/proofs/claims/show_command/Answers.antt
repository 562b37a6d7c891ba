use Rattle.cells.proofs.CellLaws.{joined}
use Rattle.boot_texts.proofs.claims.show_command.Goals as goal

pub returns : goal.returns
returns c = joined c.in_ok-text.ensures (joined c.in_ok-show_register.ensures c.show_data.ensures)
