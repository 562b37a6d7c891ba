use Rattle.cells.proofs.CellLaws.{joined}
use Rattle.answers.proofs.attestation.show_signed.Goals as goal

pub returns : goal.returns
returns c =
    joined c.in_ok-word_member.ensures c.show_verdict.ensures
