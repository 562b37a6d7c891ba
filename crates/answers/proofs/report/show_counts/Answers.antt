use Rattle.cells.proofs.CellLaws.{joined}
use Rattle.answers.proofs.report.show_counts.Goals as goal

pub returns : goal.returns
returns c = joined c.in_ok-number.ensures (joined c.in_ok-number-2.ensures (joined c.in_ok-number-3.ensures c.text.ensures))
