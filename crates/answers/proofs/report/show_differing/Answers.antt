use Rattle.cells.proofs.CellLaws.{joined}
use Rattle.answers.proofs.report.show_differing.Goals as goal

pub returns : goal.returns
returns c = joined c.in_ok-word.ensures (rw c.bytes.ensures.value at c.hex.ensures)
