use Rattle.cells.proofs.CellLaws.{joined}
use Rattle.answers.proofs.keys.show_name.Goals as goal

pub returns : goal.returns
returns c =
    joined (rw c.name_bytes.ensures.value at c.in_ok-hex.ensures) c.text.ensures
