use Rattle.rendering.proofs.outputs.show_answer.Goals as goal

pub returns-in-Attestation : goal.returns-in-Attestation
returns-in-Attestation c = rw c.in-Attestation.is (rw c.as_ref-unknown.ensures.value at c.show_attestation.ensures)

pub returns-in-Positions : goal.returns-in-Positions
returns-in-Positions c =
    rw c.in-Positions.is (rw (c.as_ref-requirement.ensures.value, c.deref.ensures.value) at c.show_positions.ensures)
