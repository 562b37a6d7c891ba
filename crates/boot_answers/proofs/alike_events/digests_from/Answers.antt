use Rattle.std.proofs.Common.{◌≤◌, ◌<◌, [], ◌∷◌, ◌++◌, List, Option, length, ap, ◌∙◌, arith}
use Rattle.std.proofs.lemmas.List.{length-append}
use Rattle.pcr_banks.specs.declared.digest.Digest.{Digest}
use Rattle.boot_log.specs.Names.{log_event_of}
use Rattle.boot_answers.proofs.CommonLaws.{all_compared, first_compared, next_digest, passed_digest}
use Rattle.boot_answers.proofs.alike_events.digests_from.Goals as goal

pub loop-event-preserved-then-left-gt0 : goal.loop-event-preserved-then-left-gt0
loop-event-preserved-then-left-gt0 c =
    let event = log_event_of c.in-Some.event in
    let (given, is, left, digests, few) = c.loop-event.invariant in
    let before : length given < c.args.place = omega (arith, left, c.if-left-gt0.true) in (
      given ++ event ∷ [],
      (rw c.in-Some.is at c.next_event.ensures.event) _ c.args.register given is,
      omega (arith, left, length-append given (event ∷ [])),
      digests ∙ passed_digest c.args.alg c.args.place given event before,
      few,
    )

pub returns-then-len-eq-MOST_COMPARED-clause-are : goal.returns-then-len-eq-MOST_COMPARED-clause-are
returns-then-len-eq-MOST_COMPARED-clause-are c = λ table events log.
    let event = log_event_of c.in-Some.event in
    let (given, is, left, digests, few) = c.loop-event.invariant in
    let later = (rw c.in-Some.is at c.next_event.ensures.prefix) _ table c.args.register given events is log in
    first_compared c.args.alg c.args.place c.args.register events given (event ∷ later.0) c.loop-event.digests.items later.1
    (omega (arith, left, c.if-left-gt0.false)) digests (omega (arith, c.len.ensures, c.if-len-eq-MOST_COMPARED.true))

pub loop-event-preserved : goal.loop-event-preserved
loop-event-preserved c =
    let event = log_event_of c.in-Some.event in
    let (given, is, left, digests, few) = c.loop-event.invariant in
    let within : c.args.place ≤ length given = omega (arith, left, c.if-left-gt0.false) in
    let size = ap (λ (l : List (Option Digest)). length l) c.in_ok-push.ensures.items
    ∙ length-append c.loop-event.digests.items (c.get.result ∷ []) in (
      given ++ event ∷ [],
      (rw c.in-Some.is at c.next_event.ensures.event) _ c.args.register given is,
      omega (arith, left, within, length-append given (event ∷ [])),
      c.in_ok-push.ensures.items
          ∙ next_digest c.args.alg c.args.place given event c.loop-event.digests.items c.get.result within digests c.get.ensures,
      omega (arith, size, few, c.len.ensures, c.if-len-eq-MOST_COMPARED.false),
    )

pub returns-clause-are : goal.returns-clause-are
returns-clause-are c = λ table events log.
    let (given, is, left, digests, few) = c.loop-event.invariant in
    let all = (rw c.in_default.is at c.next_event.ensures.end) _ table c.args.register given events is log in
    all_compared c.args.alg c.args.place c.args.register events given c.loop-event.digests.items all digests few
