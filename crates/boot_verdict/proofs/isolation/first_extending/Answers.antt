use Rattle.std.proofs.Common.{◌≡◌, ℕ, ◌+◌, length, Some, [], ◌∷◌, ◌++◌, ap, sym, ◌∙◌, arith}
use Rattle.std.proofs.lemmas.List.{length-append}
use Rattle.boot_log.specs.Names.{log_event_of}
use Rattle.boot_log.proofs.LogLaws.{one_reading}
use Rattle.boot_verdict.specs.Names.{first_extending}
use Rattle.boot_verdict.proofs.IsolationLaws.{extending_here, extending_never}
use Rattle.boot_verdict.proofs.isolation.first_extending.Goals as goal

pub loop-event-preserved : goal.loop-event-preserved
loop-event-preserved c =
    let event = log_event_of c.in-Some.event in
    let before = c.loop-event.invariant in (
      before.0 ++ event ∷ [],
      (rw c.in-Some.is at c.next_event.ensures.event) _ before.0 before.1,
      extending_never 1 before.0 event before.2 (sym c.is_extended_into.ensures ∙ c.if-is_extended_into.false),
    )

pub returns-then-is_extended_into : goal.returns-then-is_extended_into
returns-then-is_extended_into c =
    let event = log_event_of c.in-Some.event in
    let before = c.loop-event.invariant in
    let read = (rw c.in-Some.is at c.next_event.ensures.event) _ before.0 before.1 in
    let counted = c.count.ensures _ (before.0 ++ event ∷ []) read in
    let same : c.count.result ≡ 1 + length before.0 = omega (arith, counted, length-append before.0 (event ∷ [])) in
    λ table events is.
    let whole = (rw c.in-Some.is at c.next_event.ensures.prefix) _ table before.0 events before.1 is in
    ap (λ (n : ℕ). Some n) same
    ∙ sym (extending_here 1 before.0 whole.0 event before.2 (sym c.is_extended_into.ensures ∙ c.if-is_extended_into.true))
    ∙ ap first_extending (sym whole.1)

pub returns : goal.returns
returns c =
    let before = c.loop-event.invariant in
    let whole = (rw c.in_default.is at c.next_event.ensures.end) _ before.0 before.1 in
    λ table events is. sym before.2 ∙ ap first_extending (one_reading _ whole.0 table before.0 events whole.1 is).1
