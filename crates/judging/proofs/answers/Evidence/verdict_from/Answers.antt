use Rattle.std.proofs.Common.{◌≡◌, ℕ, Option, ap, arith, refl, subst, ◌∙◌}
use Rattle.std.proofs.lemmas.Result.{err_from_is_err_and}
use Rattle.boot_verdict.specs.declared.checkpoint.Checkpoint.{Checkpoint}
use Rattle.known_files.specs.declared.known.KnownFiles.{KnownFiles}
use Rattle.known_files.specs.Unknown.{IsFresh}
use Rattle.judging.specs.Answering.{entries_taken, evidence_of}
use Rattle.judging.specs.Requests.{location_of}
use Rattle.judging.proofs.InputLaws.{memory_out, tells_of}
use Rattle.judging.proofs.KnownLaws.{told_within}
use Rattle.judging.proofs.answers.Evidence.verdict_from.Goals as goal

pub returns-in_err-judged : goal.returns-in_err-judged
returns-in_err-judged g c =
    λ log resume inputs gives.
    let p = err_from_is_err_and c.from_residual-in_err-judged.result c.from_residual-in_err-judged.ensures.1 in
    let started = rw c.bytes.ensures at c.in_ok-session.ensures.started in
    rw (p.1, p.2) (c.in_err-judged.ensures inputs log resume gives started
    (λ entries count. c.new-watch.ensures.begins entries (omega (arith, count, started.count, ap (λ (k : Checkpoint). k.entries) c.checkpoint.ensures))))

pub returns-in_err-next : goal.returns-in_err-next
returns-in_err-next g c =
    λ log resume inputs gives.
    let p = err_from_is_err_and c.from_residual-in_err-next.result c.from_residual-in_err-next.ensures.1 in
    let started = rw c.bytes.ensures at c.in_ok-session.ensures.started in
    rw (p.1, p.2) (memory_out gives log resume c.args.scope (evidence_of c.args.self.now) started _ c.in_err-next.ensures.fault)

pub returns-in_err-unknown : goal.returns-in_err-unknown
returns-in_err-unknown g c =
    λ log resume inputs gives.
    let p = err_from_is_err_and c.from_residual-in_err-unknown.result c.from_residual-in_err-unknown.ensures.1 in
    let started = rw c.bytes.ensures at c.in_ok-session.ensures.started in
    rw (p.1, p.2) (memory_out gives log resume c.args.scope (evidence_of c.args.self.now) started _ refl)

pub returns-in_err-answer : goal.returns-in_err-answer
returns-in_err-answer g c =
    λ log resume inputs gives.
    let p = err_from_is_err_and c.from_residual-in_err-answer.result c.from_residual-in_err-answer.ensures.1 in
    let started = rw c.bytes.ensures at c.in_ok-session.ensures.started in
    rw (p.1, p.2) (memory_out gives log resume c.args.scope (evidence_of c.args.self.now) started _ c.in_err-answer.ensures.fault)

pub returns : goal.returns
returns g c =
    λ log resume inputs gives.
    let next = c.in_ok-next.ensures.next in
    let started = rw c.bytes.ensures at c.in_ok-session.ensures.started in
    let verdict = c.in_ok-judged.ensures inputs log resume gives started
    (λ entries count. c.new-watch.ensures.begins entries (omega (arith, count, started.count, ap (λ (k : Checkpoint). k.entries) c.checkpoint.ensures)))
    next.1 in
    let files = c.as_ref.ensures.value in
    let first : c.checkpoint.result.now.entries ≡ entries_taken c.args.self.now.checkpoint =
    ap (λ (k : Checkpoint). k.entries) c.checkpoint.ensures ∙ started.count in
    let fresh : IsFresh c.args.self.now.known_files (entries_taken c.args.self.now.checkpoint) c.new-watch.result =
    subst (λ (p : Option KnownFiles × ℕ). IsFresh p.0 p.1 c.new-watch.result) (λ i. (files i, first i)) c.new-watch.ensures.fresh in (
      c.in_ok-judged.judged,
      tells_of inputs c.args.scope (location_of c.args.list) (evidence_of c.args.self.now) _ _ c.in_ok-judged.judged c.in_ok-next.next
          (λ entries counted has.
          told_within c.args.self.now.known_files (entries_taken c.args.self.now.checkpoint) c.in_ok-next.next.entries c.new-watch.result c.in_ok-judged.watch
          c.in_ok-unknown.unknown fresh c.in_ok-unknown.ensures.unknown c.in_ok-unknown.ensures.none entries counted has)
          (rw next.0 verdict),
      c.in_ok-answer.ensures.answer,
    )
