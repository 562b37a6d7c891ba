use Rattle.cells.proofs.CellLaws.{joined}
use Rattle.answers.proofs.report.show_compared.Goals as goal

pub returns : goal.returns
returns c = joined c.in_ok-number_member.ensures c.show_compared_line.ensures
