use Rattle.std.proofs.Common.{Ok, Err}
use Rattle.agent_plans.specs.declared.plan.Task.TheVariants as tasks
use Rattle.ima_agent.proofs.OutcomeLaws.{outcome_sent}
use Rattle.ima_agent.proofs.program.send_answer.Goals as goal

pub returns-in-Ok : goal.returns-in-Ok
returns-in-Ok g c =
    outcome_sent (g.F.Files.inputs c.args.files.now) (tasks.Answer c.args.question.now) c.args.form _ _ (Ok c.in-Ok.output) _ _ _
    c.in-Ok.ensures.shown tt tt c.send_told.ensures

pub returns-in-Err : goal.returns-in-Err
returns-in-Err g c =
    outcome_sent (g.F.Files.inputs c.args.files.now) (tasks.Answer c.args.question.now) c.args.form _ _ (Err c.in-Err.fault) _ _ _
    tt c.in-Err.ensures.kept c.in-Err.ensures.fault c.send_output.ensures
