use Rattle.cells.proofs.CellLaws.{joined}
use Rattle.answers.proofs.registers.show_register.Goals as goal

pub returns : goal.returns
returns c = joined (rw c.name.ensures at c.in_ok-word.ensures) c.number.ensures
