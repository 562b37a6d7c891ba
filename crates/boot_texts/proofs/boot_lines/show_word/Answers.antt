use Rattle.cells.proofs.CellLaws.{joined}
use Rattle.boot_texts.proofs.boot_lines.show_word.Goals as goal

pub returns : goal.returns
returns c = joined c.in_ok-text.ensures (joined c.in_ok-word.ensures c.text-2.ensures)
