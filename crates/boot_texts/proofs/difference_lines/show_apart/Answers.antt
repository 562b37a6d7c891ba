use Rattle.cells.proofs.CellLaws.{joined}
use Rattle.boot_texts.proofs.difference_lines.show_apart.Goals as goal

pub returns : goal.returns
returns c = joined c.in_ok-show_register.ensures (joined (rw c.name.ensures at c.in_ok-word.ensures) (joined c.in_ok-number.ensures c.text.ensures))
