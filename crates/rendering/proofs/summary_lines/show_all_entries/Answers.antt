use Rattle.cells.proofs.CellLaws.{joined}
use Rattle.rendering.proofs.summary_lines.show_all_entries.Goals as goal

pub returns : goal.returns
returns c = joined c.in_ok-count.ensures (rw c.entries_word.ensures at c.text.ensures)
