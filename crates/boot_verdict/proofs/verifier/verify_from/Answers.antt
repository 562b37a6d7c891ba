use Rattle.std.proofs.Common.{◌∙◌, Ok, List, [], ap, inl, inr, refl, sym}
use Rattle.std.proofs.lemmas.Result.{err_from_is_err_and}
use Rattle.boot_log.specs.Names.{algs_in}
use Rattle.ima_list.specs.Names.{ListEntry}
use Rattle.boot_verdict.specs.Names.{verdict_on}
use Rattle.boot_verdict.proofs.ReplayLaws.{list_not_read, same_entries}
use Rattle.boot_verdict.proofs.VerdictLaws.{log_viewed, refused_from, verdict_by}
use Rattle.boot_verdict.proofs.VerdictLaws.{log_first_from, log_not_memory}
use Rattle.boot_verdict.proofs.verifier.verify_from.Goals as goal

pub returns-in_err-firmware-clause-report : goal.returns-in_err-firmware-clause-report
returns-in_err-firmware-clause-report g c =
    let p = err_from_is_err_and c.from_residual.result c.from_residual.ensures.1 in rw p.1 tt

pub returns-in_err-firmware-clause-only : goal.returns-in_err-firmware-clause-only
returns-in_err-firmware-clause-only g c =
    λ table events entries log holds.
    let there = c.in_err-firmware.ensures.only table events log in
    absurd cc

pub returns-in_err-firmware-clause-fault : goal.returns-in_err-firmware-clause-fault
returns-in_err-firmware-clause-fault g c =
    let p = err_from_is_err_and c.from_residual.result c.from_residual.ensures.1 in
    rw (p.1, p.2) (log_first_from _ _ c.args.limit c.in_err-firmware.field-0.0 c.in_err-firmware.ensures.fault)

pub returns-in_err-firmware-clause-memory : goal.returns-in_err-firmware-clause-memory
returns-in_err-firmware-clause-memory g c =
    let p = err_from_is_err_and c.from_residual.result c.from_residual.ensures.1 in
    rw (p.1, p.2) (λ memory. absurd (log_not_memory _ c.in_err-firmware.field-0.0 c.in_err-firmware.ensures.first memory))

pub returns-in_err-known-clause-report : goal.returns-in_err-known-clause-report
returns-in_err-known-clause-report g c =
    let p = err_from_is_err_and c.from_residual-in_err-known.result c.from_residual-in_err-known.ensures.1 in rw p.1 tt

pub returns-in_err-known-clause-only : goal.returns-in_err-known-clause-only
returns-in_err-known-clause-only g c =
    let p = err_from_is_err_and c.from_residual-in_err-known.result c.from_residual-in_err-known.ensures.1 in
    λ table events entries log holds.
    rw (p.1, p.2) (elim (list_not_read _ holds c.in_err-known.field-0.0
    (c.in_err-known.ensures.fault [] c.before_list-first.ensures.checkpoint)) [
      | inl source ↦ inl (rw source refl)
      | inr memory ↦ inr (inl memory)
    ])

pub returns-in_err-known-clause-fault : goal.returns-in_err-known-clause-fault
returns-in_err-known-clause-fault g c =
    let p = err_from_is_err_and c.from_residual-in_err-known.result c.from_residual-in_err-known.ensures.1 in
    let sound = c.in_ok-firmware.ensures.sound in
    rw (p.1, p.2) (refused_from _ _ c.args.limit c.in_err-known.field-0.0 (record { table = sound.0; events = sound.1; log_is = sound.2 })
    (c.in_err-known.ensures.fault [] c.before_list-first.ensures.checkpoint))

pub returns-in_err-report_after-clause-report : goal.returns-in_err-report_after-clause-report
returns-in_err-report_after-clause-report g c =
    let p = err_from_is_err_and c.from_residual-in_err-report_after.result c.from_residual-in_err-report_after.ensures.1 in rw p.1 tt

pub returns-in_err-report_after-clause-only : goal.returns-in_err-report_after-clause-only
returns-in_err-report_after-clause-only g c =
    let p = err_from_is_err_and c.from_residual-in_err-report_after.result c.from_residual-in_err-report_after.ensures.1 in
    rw (p.1, p.2) (λ table events entries log holds. inr (inl refl))

pub returns-in_err-report_after-clause-fault : goal.returns-in_err-report_after-clause-fault
returns-in_err-report_after-clause-fault g c =
    let p = err_from_is_err_and c.from_residual-in_err-report_after.result c.from_residual-in_err-report_after.ensures.1 in
    rw (p.1, p.2) tt

pub returns-in_err-report_after-clause-counts : goal.returns-in_err-report_after-clause-counts
returns-in_err-report_after-clause-counts g c =
    let p = err_from_is_err_and c.from_residual-in_err-report_after.result c.from_residual-in_err-report_after.ensures.1 in
    rw (p.1, p.2) c.in_ok-known.ensures.counts

pub returns-clause-report : goal.returns-clause-report
returns-clause-report g c =
    let sound = c.in_ok-firmware.ensures.sound in
    let viewed = log_viewed c.in_ok-firmware.ensures.found sound.2 in
    let goes = c.in_ok-known.ensures.known [] c.before_list-first.ensures.checkpoint in
    record {
      list = goes.more;
      came = goes.came;
      verdict_is = verdict_by sound.2 goes.checkpoint (c.in_ok-report_after.ensures sound.0 sound.1 _ viewed
          (c.registers-start.ensures sound.0 sound.1 viewed) (rw (c.in_ok-known.ensures.before, c.before_list-first.ensures.before) c.banks_for.ensures.asked) goes.checkpoint);
    }

pub returns-clause-only : goal.returns-clause-only
returns-clause-only g c =
    let goes = c.in_ok-known.ensures.known [] c.before_list-first.ensures.checkpoint in
    let is = goes.checkpoint in
    λ table events entries log holds.
    let same = same_entries _ holds goes.more is.entries goes.came is.list_is in
    let viewed = log_viewed c.in_ok-firmware.ensures.found log in
    inr (ap Ok (ap (λ (those : List ListEntry). verdict_on (algs_in table) events those c.args.expected.now) same
    ∙ sym (c.in_ok-report_after.ensures table events _ viewed
    (c.registers-start.ensures table events viewed) (rw (c.in_ok-known.ensures.before, c.before_list-first.ensures.before) c.banks_for.ensures.asked) is)))
