use Rattle.cells.proofs.CellLaws.{joined}
use Rattle.answers.proofs.attestation.show_comparison.Goals as goal

pub returns : goal.returns
returns c =
    joined c.in_ok-show_aggregate.ensures (joined (rw c.deref.ensures.value at c.in_ok-show_values.ensures) c.show_extends.ensures)
