use Rattle.std.proofs.Common.{[], ◌∷◌, ◌++◌, refl, sym, subst, ◌∙◌, arith}
use Rattle.std.specs.List.{AllByRecursion}
use Rattle.std.proofs.lemmas.List.{length-append}
use Rattle.boot_log.specs.Names.{log_event_of}
use Rattle.boot_log.proofs.LogLaws.{one_reading}
use Rattle.boot_answers.proofs.EventLaws.{added_last, other_adds_nothing, own_is_next}
use Rattle.boot_answers.proofs.FailingTestLaws.{not_told}
use Rattle.boot_answers.specs.Extending.{extended_events}
use Rattle.boot_answers.specs.Policies.{Passes}
use Rattle.boot_answers.proofs.AskingLaws.{none_before, none_of_all}
use Rattle.boot_answers.proofs.policies.first_asking.Goals as goal

pub returns-in_default-told_text : goal.returns-in_default-told_text
returns-in_default-told_text c table events is =
    let (read, borrowed, passed) = c.loop-event.invariant in
    let event = log_event_of c.in-Some.event in
    let later = (rw c.in-Some.is at c.next_event.ensures.prefix) _ table read events borrowed is in
    none_before read later.0 event passed later.1 (sym c.is_extended_into.ensures ∙ c.if-is_extended_into.true)
    (sym (rw c.in_default-told_text.is at c.told_text.ensures))

pub returns-then-is_asked : goal.returns-then-is_asked
returns-then-is_asked c table events is =
    let (read, borrowed, passed) = c.loop-event.invariant in
    let event = log_event_of c.in-Some.event in
    let later = (rw c.in-Some.is at c.next_event.ensures.prefix) _ table read events borrowed is in
    let more = (rw c.in-Some.is at c.next_event.ensures.event) _ read borrowed in
    record {
      before = read;
      event = event;
      after = later.0;
      parts = later.1;
      number_is = omega (arith, c.count.ensures _ (read ++ event ∷ []) more, length-append read (event ∷ []));
      extended = sym c.is_extended_into.ensures ∙ c.if-is_extended_into.true;
      passed = passed;
      text = _;
      told = sym (rw c.in-Some-told_text.is at c.told_text.ensures);
      asks = c.in_ok-is_asked.ensures.0 c.if-is_asked.true;
    }

pub loop-event-preserved-else-is_asked : goal.loop-event-preserved-else-is_asked
loop-event-preserved-else-is_asked c =
    let (read, borrowed, passed) = c.loop-event.invariant in
    let event = log_event_of c.in-Some.event in
    let asked = c.args.asked in
    let matched = c.args.matched.now in
    let register = c.args.register in
    let passes : Passes asked matched event = record {
      text = _;
      told = sym (rw c.in-Some-told_text.is at c.told_text.ensures);
      other = not_told c.in_ok-is_asked.is_asked _ c.if-is_asked.false c.in_ok-is_asked.ensures;
    } in (
      read ++ event ∷ [],
      (rw c.in-Some.is at c.next_event.ensures.event) _ read borrowed,
      subst (AllByRecursion (Passes asked matched))
          (sym (own_is_next register read (extended_events register read) event (sym c.is_extended_into.ensures ∙ c.if-is_extended_into.true) refl))
          (added_last (Passes asked matched) (extended_events register read) event passed passes),
    )

pub loop-event-preserved : goal.loop-event-preserved
loop-event-preserved c =
    let (read, borrowed, passed) = c.loop-event.invariant in
    let event = log_event_of c.in-Some.event in
    let register = c.args.register in (
      read ++ event ∷ [],
      (rw c.in-Some.is at c.next_event.ensures.event) _ read borrowed,
      subst (AllByRecursion (Passes c.args.asked c.args.matched.now))
          (sym (other_adds_nothing register read (extended_events register read) event
          (sym c.is_extended_into.ensures ∙ c.if-is_extended_into.false) refl)) passed,
    )

pub returns : goal.returns
returns c table events is =
    let (read, borrowed, passed) = c.loop-event.invariant in
    let end = (rw c.in_default.is at c.next_event.ensures.end) _ read borrowed in
    let all = (one_reading _ end.0 table read events end.1 is).1 in
    none_of_all (subst (λ es. AllByRecursion (Passes c.args.asked c.args.matched.now) (extended_events c.args.register es)) all passed)
