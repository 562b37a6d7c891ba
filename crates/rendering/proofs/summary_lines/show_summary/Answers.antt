use Rattle.cells.proofs.CellLaws.{joined}
use Rattle.rendering.proofs.summary_lines.show_summary.Goals as goal

pub returns : goal.returns
returns c = joined (rw c.outcome_word.ensures at c.in_ok-text.ensures) (joined c.in_ok-text-2.ensures (joined c.in_ok-show_reason_part.ensures (joined c.in_ok-show_counts.ensures c.text-3.ensures)))
