use Rattle.std.proofs.Common.{[], ◌∷◌, ◌++◌, ap, sym, ◌∙◌, arith, append-nil}
use Rattle.std.proofs.lemmas.List.{length-append}
use Rattle.boot_log.specs.Names.{log_event_of}
use Rattle.boot_answers.specs.Differences.{digests_in}
use Rattle.boot_answers.specs.Extending.{extended_events}
use Rattle.boot_answers.proofs.DifferenceLaws.{differ, known_longer, same_longer}
use Rattle.boot_answers.proofs.EventLaws.{given_are_read}
use Rattle.boot_answers.proofs.FailingTestLaws.{not_told}
use Rattle.boot_answers.proofs.differences.first_difference.Goals as goal

pub returns-in_default-next_event : goal.returns-in_default-next_event
returns-in_default-next_event c table rows events others is is_too =
    let event = log_event_of c.in-Some.event in
    let before = c.loop-event.invariant in
    let register = c.args.register in
    let later = (rw c.in-Some.is at c.next_event.ensures.prefix) _ table register before.0 events before.2 is in
    let gone = (rw c.in_default-next_event.is at c.next_event-in-Some.ensures.end) _ rows register before.1 others before.3 is_too in
    differ c.args.alg before.0 before.1 (event ∷ later.0) [] (extended_events register events) (extended_events register others)
    c.loop-event.place later.1 (gone ∙ sym (append-nil before.1)) before.4 before.5 before.6 tt

pub returns-then-not-extend_as_one : goal.returns-then-not-extend_as_one
returns-then-not-extend_as_one c table rows events others is is_too =
    let event = log_event_of c.in-Some.event in
    let other = log_event_of c.in-Some-next_event.other in
    let before = c.loop-event.invariant in
    let register = c.args.register in
    let later = (rw c.in-Some.is at c.next_event.ensures.prefix) _ table register before.0 events before.2 is in
    let more = (rw c.in-Some-next_event.is at c.next_event-in-Some.ensures.prefix) _ rows register before.1 others before.3 is_too in
    differ c.args.alg before.0 before.1 (event ∷ later.0) (other ∷ more.0) (extended_events register events)
    (extended_events register others) c.loop-event.place later.1 more.1 before.4 before.5 before.6
    (not_told c.extend_as_one.result _ c.if-not-extend_as_one.true c.extend_as_one.ensures)

pub overflow_add-place : goal.overflow_add-place
overflow_add-place c =
    let event = log_event_of c.in-Some.event in
    let before = c.loop-event.invariant in
    let now = (rw c.in-Some.is at c.next_event.ensures.event) _ c.args.register before.0 before.2 in
    omega (
      arith,
      before.6,
      length-append before.0 (event ∷ []),
      given_are_read c.args.register now.read (before.0 ++ event ∷ []) c.count-read.result now.given_are
          (c.count-read.ensures _ now.read now.borrowed),
      c.count-read.type_inv,
    )

pub loop-event-preserved : goal.loop-event-preserved
loop-event-preserved c =
    let event = log_event_of c.in-Some.event in
    let other = log_event_of c.in-Some-next_event.other in
    let one = c.extend_as_one.ensures.0 c.if-not-extend_as_one.false in
    let before = c.loop-event.invariant in (
      before.0 ++ event ∷ [],
      before.1 ++ other ∷ [],
      (rw c.in-Some.is at c.next_event.ensures.event) _ c.args.register before.0 before.2,
      (rw c.in-Some-next_event.is at c.next_event-in-Some.ensures.event) _ c.args.register before.1 before.3,
      same_longer c.args.alg before.0 before.1 event other before.4 one.0,
      known_longer c.args.alg before.0 event before.5 one.1,
      omega (arith, before.6, length-append before.0 (event ∷ [])),
    )

pub returns-in-Some-next_event-2 : goal.returns-in-Some-next_event-2
returns-in-Some-next_event-2 c table rows events others is is_too =
    let other = log_event_of c.in-Some-next_event-2.field-0 in
    let before = c.loop-event.invariant in
    let register = c.args.register in
    let all = (rw c.in_default.is at c.next_event.ensures.end) _ table register before.0 events before.2 is in
    let more = (rw c.in-Some-next_event-2.is at c.next_event-2.ensures.prefix) _ rows register before.1 others before.3 is_too in
    differ c.args.alg before.0 before.1 [] (other ∷ more.0) (extended_events register events) (extended_events register others)
    c.loop-event.place (all ∙ sym (append-nil before.0)) more.1 before.4 before.5 before.6 tt

pub returns-in-None : goal.returns-in-None
returns-in-None c table rows events others is is_too =
    let before = c.loop-event.invariant in
    let register = c.args.register in
    let all = (rw c.in_default.is at c.next_event.ensures.end) _ table register before.0 events before.2 is in
    let gone = (rw c.in-None.is at c.next_event-2.ensures.end) _ rows register before.1 others before.3 is_too in
    (ap (digests_in c.args.alg) all ∙ before.4 ∙ ap (digests_in c.args.alg) (sym gone), rw all before.5)
