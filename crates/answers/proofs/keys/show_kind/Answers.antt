use Rattle.cells.proofs.CellLaws.{joined}
use Rattle.answers.proofs.keys.show_kind.Goals as goal

pub returns : goal.returns
returns c =
    joined (rw c.name.ensures at c.in_ok-word.ensures) (joined (rw c.bits.ensures at c.in_ok-number.ensures) c.text.ensures)
