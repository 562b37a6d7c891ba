use Rattle.cells.proofs.CellLaws.{joined}
use Rattle.rendering.proofs.summary_lines.show_judged_entries.Goals as goal

pub returns : goal.returns
returns c = joined c.in_ok-count.ensures (joined c.in_ok-count-2.ensures c.text.ensures)
