use Rattle.cells.proofs.CellLaws.{joined}
use Rattle.answers.proofs.prefix.show_confirmed.Goals as goal

pub returns : goal.returns
returns c = joined c.in_ok-number.ensures (joined c.in_ok-count.ensures c.text.ensures)
