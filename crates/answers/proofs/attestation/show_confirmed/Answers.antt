use Rattle.cells.proofs.CellLaws.{joined}
use Rattle.answers.proofs.attestation.show_confirmed.Goals as goal

pub returns : goal.returns
returns c =
    joined c.in_ok-show_word.ensures c.show_report_rows.ensures
