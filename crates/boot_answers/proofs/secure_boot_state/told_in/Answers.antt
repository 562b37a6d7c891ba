use Rattle.std.proofs.Common.{[], ◌∷◌, ◌++◌}
use Rattle.boot_log.specs.Names.{log_event_of}
use Rattle.boot_answers.specs.SecureBoot.{IsBefore, policy_register}
use Rattle.boot_answers.proofs.EventLaws.{added_last}
use Rattle.boot_answers.proofs.SecureBootLaws.{told_at, told_nowhere}
use Rattle.boot_answers.proofs.secure_boot_state.told_in.Goals as goal

pub returns-in-Some-told_by : goal.returns-in-Some-told_by
returns-in-Some-told_by c table events is =
    let event = log_event_of c.in-Some.event in
    let before = c.loop-event.invariant in
    let later = (rw c.in-Some.is at c.next_event.ensures.prefix) _ table policy_register before.0 events before.1 is in
    told_at c.args.alg events before.0 later.0 event c.in-Some-told_by.answer later.1 before.2 (rw c.in-Some-told_by.is at c.told_by.ensures.ends)

pub loop-event-preserved : goal.loop-event-preserved
loop-event-preserved c =
    let event = log_event_of c.in-Some.event in
    let before = c.loop-event.invariant in (
      before.0 ++ event ∷ [],
      (rw c.in-Some.is at c.next_event.ensures.event) _ policy_register before.0 before.1,
      added_last (IsBefore c.args.alg) before.0 event before.2 (rw c.in_default-told_by.is at c.told_by.ensures.before),
    )

pub returns : goal.returns
returns c table events is =
    let before = c.loop-event.invariant in
    let all = (rw c.in_default.is at c.next_event.ensures.end) _ table policy_register before.0 events before.1 is in
    (told_nowhere c.args.alg events before.0 1 all before.2, told_nowhere c.args.alg events before.0 0 all before.2)
