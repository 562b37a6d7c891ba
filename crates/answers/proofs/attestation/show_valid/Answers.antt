use Rattle.cells.proofs.CellLaws.{joined}
use Rattle.answers.proofs.attestation.show_valid.Goals as goal

pub returns : goal.returns
returns c =
    joined c.in_ok-word.ensures (joined c.in_ok-text.ensures c.show_verdict.ensures)
