use Rattle.cells.proofs.CellLaws.{joined}
use Rattle.answers.proofs.attestation.show_attestation.Goals as goal

pub returns : goal.returns
returns c =
    let conclusion = rw c.is_attested.ensures at c.show_conclusion.ensures in
    joined c.in_ok-show_stated.ensures (joined c.in_ok-show_list_counts.ensures (joined c.in_ok-show_comparison.ensures
    (joined c.in_ok-show_unknown.ensures (joined c.in_ok-show_quote.ensures conclusion))))
