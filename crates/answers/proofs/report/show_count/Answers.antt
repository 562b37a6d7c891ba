use Rattle.cells.proofs.CellLaws.{joined}
use Rattle.answers.proofs.report.show_count.Goals as goal

pub returns : goal.returns
returns c = joined c.in_ok-count.ensures c.text.ensures
