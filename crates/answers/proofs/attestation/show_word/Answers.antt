use Rattle.cells.proofs.CellLaws.{joined}
use Rattle.answers.proofs.attestation.show_word.Goals as goal

pub returns : goal.returns
returns c =
    joined c.in_ok-word.ensures c.text.ensures
