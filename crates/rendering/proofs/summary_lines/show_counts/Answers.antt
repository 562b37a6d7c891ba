use Rattle.cells.proofs.CellLaws.{joined}
use Rattle.rendering.proofs.summary_lines.show_counts.Goals as goal

pub returns : goal.returns
returns c = joined c.in_ok-count.ensures (joined c.in_ok-count-2.ensures (joined c.in_ok-text.ensures (joined c.in_ok-show_entries.ensures c.show_unknown.ensures)))
