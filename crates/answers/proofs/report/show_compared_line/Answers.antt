use Rattle.std.proofs.Common.{refl}
use Rattle.cells.proofs.CellLaws.{none_shown}
use Rattle.answers.proofs.report.show_compared_line.Goals as goal

pub returns-in-None : goal.returns-in-None
returns-in-None c = rw c.in-None.is (none_shown refl)

pub returns-in-Some : goal.returns-in-Some
returns-in-Some c = rw c.in-Some.is c.show_count.ensures
