use Rattle.cells.proofs.CellLaws.{joined}
use Rattle.answers.proofs.prefix.show_prefix.Goals as goal

pub returns : goal.returns
returns c = joined c.in_ok-show_prefix_counts.ensures (rw c.meets-is_met.ensures at c.show_outcome.ensures)
