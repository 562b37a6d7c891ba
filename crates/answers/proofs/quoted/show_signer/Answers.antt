use Rattle.cells.proofs.CellLaws.{joined}
use Rattle.answers.proofs.quoted.show_signer.Goals as goal

pub returns : goal.returns
returns c =
    joined c.in_ok-hex.ensures c.text.ensures
