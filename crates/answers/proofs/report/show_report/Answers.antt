use Rattle.cells.proofs.CellLaws.{joined}
use Rattle.answers.proofs.report.show_report.Goals as goal

pub returns : goal.returns
returns c = joined c.in_ok-show_counts.ensures c.show_outcome.ensures
