use Rattle.std.proofs.Common.{◌≡◌, ℕ, ◌+◌, ◌∷◌, ◌++◌, [], List, length, arith, refl, ap, subst, ◌∙◌}
use Rattle.std.proofs.lemmas.List.{length-append, length-map}
use Rattle.boot_log.proofs.LogLaws.{one_reading}
use Rattle.boot_log.specs.Names.{LogEvent, log_event_of}
use Rattle.boot_verdict.specs.declared.steps.Position.TheVariants.{Event}
use Rattle.boot_verdict.specs.Names.{OfEvent, Step, events_as_steps}
use Rattle.boot_verdict.proofs.StepLaws.{event_position, events_joined}
use Rattle.boot_verdict.proofs.location.track_events.Goals as goal

pub loop-event-init : goal.loop-event-init
loop-event-init g c = λ start bytes table all borrowed is none. ([], borrowed, none)

pub loop-event-preserved : goal.loop-event-preserved
loop-event-preserved g c =
    let event = log_event_of c.in-Some.event in
    λ start bytes table all none is first.
    let before = c.loop-event.invariant start bytes table all none is first in
    let borrowed = (rw c.in-Some.is at c.next_event.ensures.event) bytes before.0 before.1 in
    let later = (rw c.in-Some.is at c.next_event.ensures.prefix) bytes table before.0 all before.1 is in
    let many = ap (λ (l : List LogEvent). length l) later.1 in
    let size : length (events_as_steps before.0) ≡ length before.0 = length-map before.0 (λ (event : LogEvent). OfEvent event) in
    let number = c.count.ensures bytes (before.0 ++ event ∷ []) borrowed in
    let position : c.count.result ≡ length (events_as_steps before.0) + 1 = omega (arith, number, size, length-append before.0 (event ∷ [])) in (
      before.0 ++ event ∷ [],
      borrowed,
      subst (λ (steps : List Step). g.F.Tracker.is_after start (length all) steps c.step.new.self) (events_joined before.0 event)
          (c.step.ensures start (length all) (events_as_steps before.0)
          (ap (λ (n : ℕ). Event n) position ∙ event_position (length all) (length (events_as_steps before.0)) (events_as_steps before.0) refl
          (omega (arith, size, many, length-append before.0 (event ∷ later.0)))) before.2),
    )

pub returns : goal.returns
returns g c =
    λ start bytes table all none is first.
    let before = c.loop-event.invariant start bytes table all none is first in
    let whole = (rw c.in_default.is at c.next_event.ensures.end) bytes before.0 before.1 in
    subst (λ (es : List LogEvent). g.F.Tracker.is_after start (length all) (events_as_steps es) c.loop-event.tracker)
    (one_reading bytes whole.0 table before.0 all whole.1 is).1 before.2
