use Rattle.ima_agent.proofs.StreamingLaws.{damaged_alone, not_sound, sound}
use Rattle.ima_agent.proofs.shown.send_read_through.Goals as goal

pub returns-in-Ok : goal.returns-in-Ok
returns-in-Ok g c = λ inputs first second.
    sound inputs c.args.list.now _ _ _ _ _ first.all c.in-Ok.ensures.sends c.send_lines.result (c.send_lines.ensures inputs second)

pub returns-in-Err-List : goal.returns-in-Err-List
returns-in-Err-List g c = λ inputs first second.
    damaged_alone inputs c.args.list.now _ _ _ _ first.all c.in-Err-List.fault (rw c.in-Err-List.field-0-is at c.in-Err-List.ensures.sends) c.damaged.result
    (c.damaged.ensures inputs second)

pub returns-in-Err : goal.returns-in-Err
returns-in-Err g c = λ inputs first second.
    not_sound inputs c.args.list.now _ _ _ _ first.all c.in-Err.fault c.stopped_by.result c.stopped_by.ensures
    (λ source. first.failing (record { counts = rw source at c.in-Err.ensures.counts; telling = c.in-Err.ensures.telling })) c.in-Err.ensures.sends
