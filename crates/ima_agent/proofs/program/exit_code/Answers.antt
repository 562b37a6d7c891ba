use Rattle.std.proofs.Common.{refl}
use Rattle.ima_agent.proofs.OutcomeLaws.{answers_so}
use Rattle.ima_agent.proofs.program.exit_code.Goals as goal

pub returns-in-Ok : goal.returns-in-Ok
returns-in-Ok g c =
    rw c.exits_with.ensures
    (answers_so _ _ _ _ _ (λ text status said. rw (c.in-Ok.is, ← c.deref.ensures.value) said) c.run_with_progress.ensures)

pub returns-in-Err : goal.returns-in-Err
returns-in-Err g c =
    rw c.exits_with-in-Err.ensures
    (answers_so _ _ _ _ _ (λ text status said. rw c.in-Err.is (said.0, said.1, refl)) c.report_fault-status.ensures)
