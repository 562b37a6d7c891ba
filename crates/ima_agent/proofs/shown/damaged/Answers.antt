use Rattle.std.proofs.Common.{inl, inr}
use Rattle.ima_agent.proofs.StreamingLaws.{too_long_for, unread_for}
use Rattle.ima_agent.proofs.shown.damaged.Goals as goal

pub returns-in-Ok : goal.returns-in-Ok
returns-in-Ok g c = λ inputs gives. inl c.into.ensures

pub returns-in-Err-TooLong : goal.returns-in-Err-TooLong
returns-in-Err-TooLong g c = λ inputs gives.
    inr (too_long_for inputs c.args.list.now _ c.too_long.result gives.all (c.in-Err-TooLong.ensures.more (cc)) c.too_long.ensures)

pub returns-in-Err-Source : goal.returns-in-Err-Source
returns-in-Err-Source g c = λ inputs gives.
    let drains = rw c.in-Err-Source.field-0-is at c.in-Err-Source.ensures.drains in
    inr (unread_for inputs c.args.list.now c.not_read.result (gives.failing (record { counts = drains.counts; telling = drains.telling })) c.not_read.ensures)
