use Rattle.std.proofs.Common.{◌∙◌, ◌||◌, Ok, List, [], ap, inl, inr, refl, subst, sym}
use Rattle.std.proofs.lemmas.Result.{err_from_is_err_and}
use Rattle.pcr_banks.specs.Names.{has_alg}
use Rattle.boot_log.specs.Names.{algs_in}
use Rattle.ima_list.specs.Names.{ListEntry}
use Rattle.boot_verdict.specs.Names.{AreTracked, HaveSame, is_asked, verdict_under}
use Rattle.boot_verdict.proofs.ReplayLaws.{list_not_read, none_listed, same_entries}
use Rattle.boot_verdict.proofs.VerdictLaws.{HasOf, final_kept, log_first_from, log_not_memory, log_viewed, refused_from, verdict_by}
use Rattle.boot_verdict.proofs.watched.verify_watched.Goals as goal

pub returns-in_err-firmware-clause-watched : goal.returns-in_err-firmware-clause-watched
returns-in_err-firmware-clause-watched g c =
    let p = err_from_is_err_and c.from_residual.result c.from_residual.ensures.1 in rw p.1 tt

pub returns-in_err-firmware-clause-report : goal.returns-in_err-firmware-clause-report
returns-in_err-firmware-clause-report g c =
    let p = err_from_is_err_and c.from_residual.result c.from_residual.ensures.1 in rw p.1 tt

pub returns-in_err-firmware-clause-only : goal.returns-in_err-firmware-clause-only
returns-in_err-firmware-clause-only g c =
    λ table events entries log holds.
    let there = c.in_err-firmware.ensures.only table events log in
    absurd cc

pub returns-in_err-firmware-clause-fault : goal.returns-in_err-firmware-clause-fault
returns-in_err-firmware-clause-fault g c =
    let p = err_from_is_err_and c.from_residual.result c.from_residual.ensures.1 in
    rw (p.1, p.2) (log_first_from _ _ c.args.limit c.in_err-firmware.field-0.0 c.in_err-firmware.ensures.fault)

pub returns-in_err-firmware-clause-memory : goal.returns-in_err-firmware-clause-memory
returns-in_err-firmware-clause-memory g c =
    let p = err_from_is_err_and c.from_residual.result c.from_residual.ensures.1 in
    rw (p.1, p.2) (λ memory. absurd (log_not_memory _ c.in_err-firmware.field-0.0 c.in_err-firmware.ensures.first memory))

pub returns-in_err-known-clause-watched : goal.returns-in_err-known-clause-watched
returns-in_err-known-clause-watched g c =
    let p = err_from_is_err_and c.from_residual-in_err-known.result c.from_residual-in_err-known.ensures.1 in rw p.1 tt

pub returns-in_err-known-clause-report : goal.returns-in_err-known-clause-report
returns-in_err-known-clause-report g c =
    let p = err_from_is_err_and c.from_residual-in_err-known.result c.from_residual-in_err-known.ensures.1 in rw p.1 tt

pub returns-in_err-known-clause-only : goal.returns-in_err-known-clause-only
returns-in_err-known-clause-only g c =
    let p = err_from_is_err_and c.from_residual-in_err-known.result c.from_residual-in_err-known.ensures.1 in
    λ table events entries log holds.
    rw (p.1, p.2) (elim (list_not_read _ holds c.in_err-known.field-0.0
    (c.in_err-known.ensures.fault [] c.before_list-first.ensures.checkpoint)) [
      | inl source ↦ inl (rw source refl)
      | inr memory ↦ inr (inl memory)
    ])

pub returns-in_err-known-clause-fault : goal.returns-in_err-known-clause-fault
returns-in_err-known-clause-fault g c =
    let p = err_from_is_err_and c.from_residual-in_err-known.result c.from_residual-in_err-known.ensures.1 in
    let sound = c.in_ok-firmware.ensures.sound in
    rw (p.1, p.2) (refused_from _ _ c.args.limit c.in_err-known.field-0.0 (record { table = sound.0; events = sound.1; log_is = sound.2 })
    (c.in_err-known.ensures.fault [] c.before_list-first.ensures.checkpoint))

pub returns-in_err-report-clause-watched : goal.returns-in_err-report-clause-watched
returns-in_err-report-clause-watched g c =
    let p = err_from_is_err_and c.from_residual-in_err-report.result c.from_residual-in_err-report.ensures.1 in rw p.1 tt

pub returns-in_err-report-clause-report : goal.returns-in_err-report-clause-report
returns-in_err-report-clause-report g c =
    let p = err_from_is_err_and c.from_residual-in_err-report.result c.from_residual-in_err-report.ensures.1 in rw p.1 tt

pub returns-in_err-report-clause-only : goal.returns-in_err-report-clause-only
returns-in_err-report-clause-only g c =
    let p = err_from_is_err_and c.from_residual-in_err-report.result c.from_residual-in_err-report.ensures.1 in
    rw (p.1, p.2) (λ table events entries log holds. inr (inl refl))

pub returns-in_err-report-clause-fault : goal.returns-in_err-report-clause-fault
returns-in_err-report-clause-fault g c =
    let p = err_from_is_err_and c.from_residual-in_err-report.result c.from_residual-in_err-report.ensures.1 in
    rw (p.1, p.2) tt

pub returns-in_err-report-clause-counts : goal.returns-in_err-report-clause-counts
returns-in_err-report-clause-counts g c =
    let p = err_from_is_err_and c.from_residual-in_err-report.result c.from_residual-in_err-report.ensures.1 in
    rw (p.1, p.2) c.in_ok-known.ensures.counts

pub returns-clause-watched : goal.returns-clause-watched
returns-clause-watched g c =
    λ begun tracked.
    let sound = c.in_ok-firmware.ensures.sound in
    let viewed = log_viewed c.in_ok-firmware.ensures.found sound.2 in
    let firmware = c.registers-start.ensures sound.0 sound.1 viewed in
    let known = c.before_list-first.ensures.checkpoint in
    let IsAfter = g.W.Tracker.is_after in
    let goes = c.in_ok-known.ensures.watched begun [] known
    (subst (λ (l : List ListEntry). AreTracked IsAfter begun l c.args.watch) (sym (none_listed known.list_is)) tracked) in
    let is = goes.checkpoint in
    let kept : HaveSame c.args.expected.now c.in_ok-known.known.before c.registers-start.result =
    rw (c.in_ok-known.ensures.before, c.before_list-first.ensures.before) c.banks_with.ensures.asked in
    let values : HasOf c.args.expected.now c.args.more c.in_ok-known.known.before c.registers-start.result =
    rw (c.in_ok-known.ensures.before, c.before_list-first.ensures.before) c.banks_with.ensures.values in
    record {
      list = goes.more;
      came = goes.came;
      verdict_is = record {
        table = sound.0;
        events = sound.1;
        entries = is.entries;
        log_is = sound.2;
        list_is = is.list_is;
        genuine = is.genuine;
        verdict_is = c.in_ok-report.ensures sound.0 sound.1 _ viewed firmware kept is;
      };
      registers_are = λ alg register.
          final_kept (algs_in sound.0) sound.1 is.entries c.registers-start.result c.in_ok-known.known.before c.in_ok-known.known.after alg register
          (has_alg c.args.more alg || is_asked c.args.expected.now alg) firmware (values alg register) is.replayed;
      tracked = goes.tracked;
    }

pub returns-clause-report : goal.returns-clause-report
returns-clause-report g c =
    let sound = c.in_ok-firmware.ensures.sound in
    let viewed = log_viewed c.in_ok-firmware.ensures.found sound.2 in
    let goes = c.in_ok-known.ensures.known [] c.before_list-first.ensures.checkpoint in
    let is = goes.checkpoint in
    let kept : HaveSame c.args.expected.now c.in_ok-known.known.before c.registers-start.result =
    rw (c.in_ok-known.ensures.before, c.before_list-first.ensures.before) c.banks_with.ensures.asked in
    record {
      list = goes.more;
      came = goes.came;
      verdict_is = verdict_by sound.2 is
          (c.in_ok-report.ensures sound.0 sound.1 _ viewed (c.registers-start.ensures sound.0 sound.1 viewed) kept is);
    }

pub returns-clause-only : goal.returns-clause-only
returns-clause-only g c =
    let goes = c.in_ok-known.ensures.known [] c.before_list-first.ensures.checkpoint in
    let is = goes.checkpoint in
    let kept : HaveSame c.args.expected.now c.in_ok-known.known.before c.registers-start.result =
    rw (c.in_ok-known.ensures.before, c.before_list-first.ensures.before) c.banks_with.ensures.asked in
    λ table events entries log holds.
    let same = same_entries _ holds goes.more is.entries goes.came is.list_is in
    let viewed = log_viewed c.in_ok-firmware.ensures.found log in
    inr (ap Ok (ap (λ (those : List ListEntry). verdict_under c.args.rule (algs_in table) events those c.args.expected.now) same
    ∙ sym (c.in_ok-report.ensures table events _ viewed (c.registers-start.ensures table events viewed) kept is)))
