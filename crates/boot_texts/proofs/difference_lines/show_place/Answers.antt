use Rattle.cells.proofs.CellLaws.{joined}
use Rattle.boot_texts.proofs.difference_lines.show_place.Goals as goal

pub returns : goal.returns
returns c = joined c.in_ok-show_register.ensures (joined c.in_ok-text.ensures (joined c.in_ok-text-2.ensures c.number.ensures))
