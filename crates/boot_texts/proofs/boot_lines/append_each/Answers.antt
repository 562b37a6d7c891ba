use Rattle.boot_log.proofs.LogLaws.{one_reading}
use Rattle.boot_log.specs.Names.{log_event_of}
use Rattle.boot_texts.proofs.TellingLaws.{more_told, told_to, told_to_end}
use Rattle.boot_texts.proofs.boot_lines.append_each.Goals as goal

pub returns-then-not-goes_on : goal.returns-then-not-goes_on
returns-then-not-goes_on c table events is =
    let has = c.loop-event.invariant in
    let event = log_event_of c.in-Some.event in
    let borrowed = (rw c.in-Some.is at c.next_event.ensures.event) _ has.read has.borrowed in
    let later = (rw c.in-Some.is at c.next_event.ensures.prefix) _ table has.read events has.borrowed is in
    let told = rw c.if-not-goes_on.true at c.in_ok-goes_on.ensures in
    told_to has event c.count-number.result told.0 (c.count-number.ensures _ _ borrowed) events later.0 later.1 told.1 told.2

pub loop-event-preserved : goal.loop-event-preserved
loop-event-preserved c =
    let has = c.loop-event.invariant in
    let event = log_event_of c.in-Some.event in
    let borrowed = (rw c.in-Some.is at c.next_event.ensures.event) _ has.read has.borrowed in
    let told = rw c.if-not-goes_on.false at c.in_ok-goes_on.ensures in
    more_told has event c.count-number.result told.0 (c.count-number.ensures _ _ borrowed) borrowed told.1 told.2

pub returns : goal.returns
returns c table events is =
    let has = c.loop-event.invariant in
    let end = (rw c.in_default.is at c.next_event.ensures.end) _ has.read has.borrowed in
    told_to_end has events (one_reading _ end.0 table has.read events end.1 is).1
