use Rattle.std.proofs.Common.{[], arith, inr, refl, subst}
use Rattle.std.proofs.Math.Seq.{take-length}
use Rattle.std.proofs.lemmas.Result.{err_from_is_err_and}
use Rattle.agent_inputs.proofs.LoadingLemmas.{source_failed}
use Rattle.boot_verdict.specs.declared.verifier.VerifyFault.TheVariants.{Memory}
use Rattle.known_files.specs.declared.known.KnownFiles.{KnownFiles}
use Rattle.known_files.specs.Unknown.{IsFresh}
use Rattle.std.specs.declared.option.Option.{Option}
use Rattle.judging.proofs.InputLaws.{held, list_refused}
use Rattle.judging.proofs.KnownLaws.{counted_list, told_within}
use Rattle.judging.proofs.answers.Evidence.list_verdict_from.Goals as goal

pub returns-in-Err : goal.returns-in-Err
returns-in-Err g c =
    λ inputs gives.
    inr (list_refused gives c.in-Err.fault _
    (source_failed c.verify_list_from.result c.in-Err.fault _ _ c.in-Err.is c.verify_list_from.ensures.counts c.verify_list_from.ensures.telling)
    (rw c.limit_of.ensures at c.in-Err.ensures.fault) c.refusal.ensures)

pub returns-in_err-unknown-in-Ok : goal.returns-in_err-unknown-in-Ok
returns-in_err-unknown-in-Ok g c =
    λ inputs gives.
    let p = err_from_is_err_and c.from_residual.result c.from_residual.ensures.1 in
    rw (p.1, p.2) (inr (Memory, tt, refl))

pub returns-in_ok-unknown-in-Ok : goal.returns-in_ok-unknown-in-Ok
returns-in_ok-unknown-in-Ok g c =
    λ inputs gives.
    let w = (rw (c.deref.ensures.value) at c.in-Ok.ensures.watched) c.new-watch.result (c.new-watch.ensures.begins [] (omega arith)) in
    let entries = w.verdict_is.entries in
    let files = c.as_ref.ensures.value in
    let fresh : IsFresh c.args.self.now.known_files 0 c.new-watch.result =
    subst (λ (known : Option KnownFiles). IsFresh known 0 c.new-watch.result) files c.new-watch.ensures.fresh in (
      w.list,
      held gives {came = w.list} w.came,
      (
        w.verdict_is,
        told_within c.args.self.now.known_files 0 c.in-Ok.report.entries c.new-watch.result c.in-Ok.watch c.in_ok-unknown-in-Ok.unknown fresh
            c.in_ok-unknown-in-Ok.ensures.unknown c.in_ok-unknown-in-Ok.ensures.none entries
            (counted_list w.list c.args.self.now.expected.items _ w.verdict_is) (entries, take-length entries, w.tracked),
      ),
    )
