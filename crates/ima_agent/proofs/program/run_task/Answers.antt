use Rattle.ima_agent.proofs.OutcomeLaws.{answers_cut, answers_done, answers_failed}
use Rattle.ima_agent.proofs.program.run_task.Goals as goal

pub returns-in-Ok : goal.returns-in-Ok
returns-in-Ok g c = answers_done _ _ _ c.in-Ok.status c.in-Ok.ensures

pub returns-in-Err-Sink : goal.returns-in-Err-Sink
returns-in-Err-Sink g c = answers_cut _ _ _ _ (rw c.in-Err-Sink.field-0-is at c.in-Err-Sink.ensures)

pub returns-in-Err-Run : goal.returns-in-Err-Run
returns-in-Err-Run g c =
    answers_failed _ _ _ _ c.in-Err-Run.fault c.report_fault-status.result (rw c.in-Err-Run.field-0-is at c.in-Err-Run.ensures)
    c.report_fault-status.ensures
