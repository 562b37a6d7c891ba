use Rattle.std.proofs.Common.{refl, inl, inr}
use Rattle.ima_agent.proofs.OutcomeLaws.{answers_so}
use Rattle.ima_agent.proofs.program.run_with_progress.Goals as goal

pub returns-in-Ok : goal.returns-in-Ok
returns-in-Ok g c =
    let request = c.in-Ok.ensures.request in
    answers_so _ _ _ _ _ (λ text status said. inl (c.in-Ok.plan, request.0, request.1, rw c.into_task-task.ensures at said)) c.run_task.ensures

pub returns-in-Err : goal.returns-in-Err
returns-in-Err g c =
    answers_so _ _ _ _ _ (λ text status said. inr (c.in-Err.fault, c.in-Err.ensures.refused, said.0, said.1, refl)) c.report_fault-status.ensures
