use Rattle.std.proofs.Common.{◌≡◌, ◌∙◌, Ok, Err, List, ap, inl, inr, refl, sym}
use Rattle.std.proofs.lemmas.Result.{err_from_is_err_and}
use Rattle.boot_log.specs.Names.{algs_in}
use Rattle.ima_list.specs.Names.{ListEntry}
use Rattle.boot_verdict.specs.declared.verifier.VerifyFault.TheVariants.{Memory}
use Rattle.boot_verdict.specs.Names.{verdict_on}
use Rattle.boot_verdict.proofs.ReplayLaws.{one_list}
use Rattle.boot_verdict.proofs.VerdictLaws.{log_viewed, verdict_by}
use Rattle.boot_verdict.proofs.VerdictLaws.{log_first, log_not_memory}
use Rattle.boot_verdict.proofs.verifier.verify.Goals as goal

pub returns-in_err-log-clause-report : goal.returns-in_err-log-clause-report
returns-in_err-log-clause-report c =
    let p = err_from_is_err_and c.from_residual.result c.from_residual.ensures.1 in rw p.1 tt

pub returns-in_err-log-clause-only : goal.returns-in_err-log-clause-only
returns-in_err-log-clause-only c =
    λ table events entries log list genuine.
    let there = c.in_err-log.ensures.only table events log in
    absurd cc

pub returns-in_err-log-clause-fault : goal.returns-in_err-log-clause-fault
returns-in_err-log-clause-fault c =
    let p = err_from_is_err_and c.from_residual.result c.from_residual.ensures.1 in
    rw (p.1, p.2) (log_first _ c.args.list.now c.in_err-log.field-0.0 (inr c.in_err-log.ensures.fault))

pub returns-in_err-log-clause-memory : goal.returns-in_err-log-clause-memory
returns-in_err-log-clause-memory c =
    let p = err_from_is_err_and c.from_residual.result c.from_residual.ensures.1 in
    rw (p.1, p.2) (λ memory. absurd (log_not_memory _ c.in_err-log.field-0.0 c.in_err-log.ensures.first memory))

pub returns-in_err-known-clause-report : goal.returns-in_err-known-clause-report
returns-in_err-known-clause-report c =
    let p = err_from_is_err_and c.from_residual-in_err-known.result c.from_residual-in_err-known.ensures.1 in rw p.1 tt

pub returns-in_err-known-clause-only : goal.returns-in_err-known-clause-only
returns-in_err-known-clause-only c =
    λ table events entries log list genuine.
    let there = c.in_err-known.ensures.only entries list genuine in
    absurd cc

pub returns-in_err-known-clause-fault : goal.returns-in_err-known-clause-fault
returns-in_err-known-clause-fault c =
    let p = err_from_is_err_and c.from_residual-in_err-known.result c.from_residual-in_err-known.ensures.1 in
    let sound = c.in_ok-log.ensures.sound in
    rw (p.1, p.2) (c.in_err-known.ensures.fault _ (record { table = sound.0; events = sound.1; log_is = sound.2 }))

pub returns-in_err-known-clause-memory : goal.returns-in_err-known-clause-memory
returns-in_err-known-clause-memory c =
    let p = err_from_is_err_and c.from_residual-in_err-known.result c.from_residual-in_err-known.ensures.1 in
    rw (p.1, p.2) (λ memory.
    let same : c.in_err-known.field-0.0 ≡ Memory = cc in
    absurd (c.in_err-known.ensures.memory (ap Err same)))

pub returns-in_err-report_after-clause-report : goal.returns-in_err-report_after-clause-report
returns-in_err-report_after-clause-report c =
    let p = err_from_is_err_and c.from_residual-in_err-report_after.result c.from_residual-in_err-report_after.ensures.1 in rw p.1 tt

pub returns-in_err-report_after-clause-only : goal.returns-in_err-report_after-clause-only
returns-in_err-report_after-clause-only c =
    let p = err_from_is_err_and c.from_residual-in_err-report_after.result c.from_residual-in_err-report_after.ensures.1 in
    rw (p.1, p.2) (λ table events entries log list genuine. inl refl)

pub returns-in_err-report_after-clause-fault : goal.returns-in_err-report_after-clause-fault
returns-in_err-report_after-clause-fault c =
    let p = err_from_is_err_and c.from_residual-in_err-report_after.result c.from_residual-in_err-report_after.ensures.1 in
    rw (p.1, p.2) tt

pub returns-in_err-report_after-clause-memory : goal.returns-in_err-report_after-clause-memory
returns-in_err-report_after-clause-memory c =
    let sound = c.in_ok-log.ensures.sound in
    let is = c.in_ok-known.ensures.known in
    λ memory. (
      record { table = sound.0; events = sound.1; log_is = sound.2 },
      record { entries = is.entries; list_is = is.list_is; genuine = is.genuine },
    )

pub returns-clause-report : goal.returns-clause-report
returns-clause-report c =
    let sound = c.in_ok-log.ensures.sound in
    let is = c.in_ok-known.ensures.known in
    let viewed = log_viewed c.in_ok-log.ensures.found sound.2 in
    verdict_by sound.2 is (c.in_ok-report_after.ensures sound.0 sound.1 _ viewed
    (c.registers-start.ensures sound.0 sound.1 viewed) (rw c.in_ok-known.ensures.before c.banks_for.ensures.asked) is)

pub returns-clause-only : goal.returns-clause-only
returns-clause-only c =
    let is = c.in_ok-known.ensures.known in
    λ table events entries log list genuine.
    let same = one_list list is.list_is in
    let viewed = log_viewed c.in_ok-log.ensures.found log in
    ap Ok (ap (λ (those : List ListEntry). verdict_on (algs_in table) events those c.args.expected.now) same
    ∙ sym (c.in_ok-report_after.ensures table events _ viewed (c.registers-start.ensures table events viewed) (rw c.in_ok-known.ensures.before c.banks_for.ensures.asked) is))
