use Rattle.std.proofs.Common.{ℕ, List, Option, refl, sym, ◌∙◌}
use Rattle.std.proofs.Math.Seq.{take-length}
use Rattle.std.proofs.lemmas.Bool.{false≢true}
use Rattle.std.proofs.lemmas.Result.{err_from_is_err_and}
use Rattle.agent_inputs.proofs.LoadingLemmas.{source_failed}
use Rattle.boot_verdict.specs.declared.checkpoint.Checkpoint.{Checkpoint}
use Rattle.boot_verdict.specs.Names.{AreTracked}
use Rattle.growing_lists.specs.declared.session.Session.{Session}
use Rattle.growing_lists.specs.Sessions.{HasTaken}
use Rattle.known_files.specs.declared.unknown.UnknownEntries.{UnknownEntries}
use Rattle.known_files.specs.Unknown.{IsLookedAfter}
use Rattle.judging.specs.Answering.{BeginsAfter, HasWatched, IsStarted, evidence_of}
use Rattle.judging.proofs.InputLaws.{memory_out, not_found, prefix_found, whole_found}
use Rattle.judging.proofs.answers.Evidence.judge_from.Goals as goal

-- A watch that begins where a session goes on has looked at what that has taken as at nothing.
begun : {log other taken : List ℕ} {known : Option Checkpoint} {session : Session} {start : UnknownEntries} → IsStarted log known session
    → BeginsAfter known start → (is : HasTaken other taken session) → AreTracked IsLookedAfter start is.checkpoint.entries start
begun started begins is = begins is.checkpoint.entries (sym is.checkpoint.count ∙ started.count)

pub returns-in_err-report-in-Ok-Some-default : goal.returns-in_err-report-in-Ok-Some-default
returns-in_err-report-in-Ok-Some-default g c =
    λ inputs log resume gives started begins.
    let p = err_from_is_err_and c.from_residual.result c.from_residual.ensures.1 in
    rw (p.1, p.2) (memory_out gives log resume c.args.scope (evidence_of c.args.self.now) started _ refl)

pub returns-in_err-whole-in-Ok-None-default : goal.returns-in_err-whole-in-Ok-None-default
returns-in_err-whole-in-Ok-None-default g c =
    λ inputs log resume gives started begins.
    let p = err_from_is_err_and c.from_residual-in_err-whole-in-Ok-None-default.result c.from_residual-in_err-whole-in-Ok-None-default.ensures.1 in
    rw (p.1, p.2) (memory_out gives log resume c.args.scope (evidence_of c.args.self.now) started _ refl)

pub returns-in_err-whole-in-Ok : goal.returns-in_err-whole-in-Ok
returns-in_err-whole-in-Ok g c =
    λ inputs log resume gives started begins.
    let p = err_from_is_err_and c.from_residual-in_err-whole-in-Ok.result c.from_residual-in_err-whole-in-Ok.ensures.1 in
    rw (p.1, p.2) (memory_out gives log resume c.args.scope (evidence_of c.args.self.now) started _ refl)

pub returns-in_ok-report-in-Ok-Some-default : goal.returns-in_ok-report-in-Ok-Some-default
returns-in_ok-report-in-Ok-Some-default g c =
    λ inputs log resume gives started begins room.
    let watched = rw (c.in-Ok-Some-default.field-0-0-is, c.limit_of.ensures, c.goal.ensures) at c.in-Ok-Some-default.ensures.watched in
    prefix_found gives log resume c.args.scope (evidence_of c.args.self.now) started (HasWatched c.args.watch c.in-Ok-Some-default.watch) _
    c.in_ok-report-in-Ok-Some-default.field-0 c.in-Ok-Some-default.confirmed room
    (sym c.seeks_prefix.ensures ∙ c.if-seeks_prefix.true)
    (λ log taken is. let w = watched c.args.watch log taken is (begun started begins is) in (w.prefix, (w.all, w.first, w.tracked)))
    (rw c.deref.ensures.value at c.in_ok-report-in-Ok-Some-default.ensures)

pub returns-in_ok-whole-in-Ok-None-default : goal.returns-in_ok-whole-in-Ok-None-default
returns-in_ok-whole-in-Ok-None-default g c =
    λ inputs log resume gives started begins room.
    let none = rw (c.in-Ok-None-default.field-0-0-is, c.limit_of.ensures, c.goal.ensures) at c.in-Ok-None-default.ensures.none in
    let watched = rw (c.in-Ok-None-default.field-0-0-is, c.limit_of.ensures) at c.in-Ok-None-default.ensures.watched in
    whole_found gives log resume c.args.scope (evidence_of c.args.self.now) started (HasWatched c.args.watch c.in-Ok-None-default.watch) _
    c.in_ok-whole-in-Ok-None-default.whole room
    (λ log taken is.
    let w = watched c.args.watch log taken is (begun started begins is) in
    (w.takes, (w.takes.taken.checkpoint.entries, take-length w.takes.taken.checkpoint.entries, w.tracked)))
    (λ sought. none)
    (rw c.deref-in-Ok-None-default.ensures.value at c.in_ok-whole-in-Ok-None-default.ensures)

pub returns-in_ok-whole-in-Ok : goal.returns-in_ok-whole-in-Ok
returns-in_ok-whole-in-Ok g c =
    λ inputs log resume gives started begins room.
    let watched = rw c.limit_of-else-seeks_prefix.ensures at c.in-Ok.ensures.watched in
    whole_found gives log resume c.args.scope (evidence_of c.args.self.now) started (HasWatched c.args.watch c.in-Ok.watch) _
    c.in_ok-whole-in-Ok.whole room
    (λ log taken is.
    let w = watched c.args.watch log taken is (begun started begins is) in
    (w.takes, (w.takes.taken.checkpoint.entries, take-length w.takes.taken.checkpoint.entries, w.tracked)))
    (λ sought.
    absurd (false≢true (sym c.if-seeks_prefix.false ∙ c.seeks_prefix.ensures ∙ sought)))
    (rw c.deref-in-Ok.ensures.value at c.in_ok-whole-in-Ok.ensures)

pub returns-in-Err : goal.returns-in-Err
returns-in-Err g c =
    λ inputs log resume gives started begins.
    not_found gives log resume c.args.scope (evidence_of c.args.self.now) started c.in-Err.fault _
    (source_failed c.confirm.result c.in-Err.fault _ _ c.in-Err.is c.confirm.ensures.counts c.confirm.ensures.telling)
    (rw c.limit_of.ensures at c.in-Err.ensures.fault)
    (λ sought. rw (c.limit_of.ensures, c.goal.ensures) at c.in-Err.ensures.unconfirmed)
    c.refusal.ensures

pub returns-in-Err-more : goal.returns-in-Err-more
returns-in-Err-more g c =
    λ inputs log resume gives started begins.
    not_found gives log resume c.args.scope (evidence_of c.args.self.now) started c.in-Err-more.fault _
    (source_failed c.more.result c.in-Err-more.fault _ _ c.in-Err-more.is c.more.ensures.counts c.more.ensures.telling)
    (rw c.limit_of-else-seeks_prefix.ensures at c.in-Err-more.ensures.fault)
    (λ sought.
    absurd (false≢true (sym c.if-seeks_prefix.false ∙ c.seeks_prefix.ensures ∙ sought)))
    c.refusal-in-Err-more.ensures
