use Rattle.std.proofs.Common.{refl}
use Rattle.cells.proofs.CellLaws.{none_shown}
use Rattle.rendering.proofs.summary_lines.show_reason_part.Goals as goal

pub returns-in-None : goal.returns-in-None
returns-in-None c = rw c.in-None.is (none_shown refl)

pub returns-in-Some : goal.returns-in-Some
returns-in-Some c = rw c.in-Some.is c.show_reason_before.ensures
