use Rattle.std.proofs.Common.{refl, inl, inr}
use Rattle.agent_inputs.specs.declared.fault.RunFault.TheVariants.{Memory}
use Rattle.rendering.specs.FaultTexts.{fault_line, fault_status}
use Rattle.ima_agent.proofs.OutcomeLaws.{line_sent}
use Rattle.ima_agent.proofs.program.report_fault.Goals as goal

pub returns-in-Text : goal.returns-in-Text
returns-in-Text g c =
    let fault = c.args.fault.now in
    rw c.in-Text.is
    (line_sent _ (fault_line fault) (fault_status fault) _ c.write_fault.result _ _ (refl, refl) c.write_fault.ensures c.status_after.ensures)

pub returns-in-Ok : goal.returns-in-Ok
returns-in-Ok g c =
    let fault = c.args.fault.now in
    rw c.in-Json.is
    (line_sent _ c.in-Ok.line.items (fault_status fault) _ c.send.result _ _ (inl (c.in-Ok.ensures, refl))
    (rw c.deref.ensures.value at c.send.ensures) c.status_after-in-Ok.ensures)

pub returns-in-Err : goal.returns-in-Err
returns-in-Err g c =
    rw c.in-Json.is
    (line_sent _ c.json_memory_line.result.now (fault_status Memory) _ c.send-in-Err.result _ _ (inr (c.json_memory_line.ensures, refl))
    c.send-in-Err.ensures c.status_after-in-Err.ensures)
