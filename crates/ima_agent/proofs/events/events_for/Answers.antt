use Rattle.std.proofs.Common.{◌∙◌, inl, sym}
use Rattle.agent_plans.specs.declared.plan.Task.TheVariants as tasks
use Rattle.ima_agent.proofs.OutcomeLaws.{none_sent, plain_outcome, told_outcome}
use Rattle.ima_agent.proofs.StreamingLaws.{streams_so}
use Rattle.ima_agent.proofs.events.events_for.Goals as goal

pub returns-in-Err : goal.returns-in-Err
returns-in-Err g c =
    let inputs = g.F.Files.inputs c.args.files.now in
    none_sent inputs (tasks.Events c.args.log.now c.args.requested c.args.confirmed_by.now) c.args.form _ _ _ c.in-Err.fault
    (inl c.in-Err.ensures.fault) c.log_for.ensures.replaced

pub returns-in-Some : goal.returns-in-Some
returns-in-Some g c =
    streams_so _ _ _ _ c.write_log.result
    (plain_outcome (g.F.Files.inputs c.args.files.now) c.args.log.now c.args.requested c.args.confirmed_by.now c.args.form _ _ c.in-Ok.bytes.items
    c.in-Ok.ensures.all c.log_for.ensures.replaced c.in-Some.with_data (sym c.plain_lines.ensures ∙ c.in-Some.is))
    (rw c.deref.ensures.value at (c.write_log.ensures c.args.form))

pub returns : goal.returns
returns g c =
    streams_so _ _ _ _ c.tell_log.result
    (told_outcome (g.F.Files.inputs c.args.files.now) c.args.log.now c.args.requested c.args.confirmed_by.now c.args.form _ _ c.in-Ok.bytes.items
    c.in-Ok.ensures.all (c.tell_log.ensures.replaced ∙ c.log_for.ensures.replaced) (sym c.plain_lines.ensures ∙ c.in-None.is))
    (rw (c.deref-in-None.ensures.value, c.log_for.ensures.inputs) at c.tell_log.ensures.streams)
