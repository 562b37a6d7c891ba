use Rattle.cells.proofs.CellLaws.{joined}
use Rattle.boot_texts.proofs.difference_lines.show_alike.Goals as goal

pub returns : goal.returns
returns c = joined c.in_ok-show_register.ensures (joined c.in_ok-word.ensures c.text.ensures)
