use Rattle.cells.proofs.CellLaws.{joined}
use Rattle.answers.proofs.keys.show_scheme.Goals as goal

pub returns : goal.returns
returns c =
    joined (rw c.name.ensures at c.in_ok-word.ensures) (joined c.in_ok-show_hash.ensures c.text.ensures)
