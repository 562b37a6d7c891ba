use Rattle.cells.proofs.CellLaws.{joined}
use Rattle.answers.proofs.attestation.show_verdict.Goals as goal

pub returns : goal.returns
returns c =
    joined (rw c.verdict_word.ensures at c.in_ok-word.ensures) c.text.ensures
