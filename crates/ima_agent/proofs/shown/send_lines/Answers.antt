use Rattle.ima_agent.proofs.StreamingLaws.{entries_shown, entries_stopped}
use Rattle.ima_agent.proofs.shown.send_lines.Goals as goal

pub returns-in-Ok : goal.returns-in-Ok
returns-in-Ok g c = λ inputs gives. entries_shown c.args.form inputs c.args.list.now _ _ _ _ gives.all c.in-Ok.ensures.sends

pub returns-in-Err : goal.returns-in-Err
returns-in-Err g c = λ inputs gives.
    entries_stopped c.args.form inputs c.args.list.now _ _ _ _ gives.all c.in-Err.fault c.stopped_by.result c.stopped_by.ensures
    (λ source. gives.failing (record { counts = rw source at c.in-Err.ensures.counts; telling = c.in-Err.ensures.telling })) c.in-Err.ensures.sends
