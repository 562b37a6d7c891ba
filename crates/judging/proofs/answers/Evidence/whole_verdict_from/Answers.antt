use Rattle.std.proofs.Common.{Err, [], ap, arith, inr, refl, subst}
use Rattle.std.proofs.Math.Seq.{take-length}
use Rattle.std.proofs.lemmas.Result.{err_from_is_err_and}
use Rattle.std.specs.declared.option.Option.{Option}
use Rattle.agent_inputs.proofs.LoadingLemmas.{source_failed}
use Rattle.boot_log.specs.Names.{algs_in}
use Rattle.boot_verdict.specs.declared.verifier.VerifyFault.{VerifyFault}
use Rattle.boot_verdict.specs.declared.verifier.VerifyFault.TheVariants.{Memory}
use Rattle.known_files.specs.declared.known.KnownFiles.{KnownFiles}
use Rattle.known_files.specs.Unknown.{IsFresh}
use Rattle.judging.specs.Answering.{evidence_of}
use Rattle.judging.proofs.InputLaws.{held, positions_refused}
use Rattle.judging.proofs.KnownLaws.{told_within}
use Rattle.judging.proofs.WholeLaws.{answered_after, counted_verdict}
use Rattle.judging.proofs.answers.Evidence.whole_verdict_from.Goals as goal

pub returns-in-Err : goal.returns-in-Err
returns-in-Err g c =
    λ log inputs gives.
    inr (positions_refused gives (evidence_of c.args.self.now) c.in-Err.fault _
    (source_failed c.verify_watched.result c.in-Err.fault _ _ c.in-Err.is c.verify_watched.ensures.counts c.verify_watched.ensures.telling)
    (rw (c.bytes-log.ensures, c.limit_of-limit.ensures) at c.in-Err.ensures.fault)
    (λ same. rw c.bytes-log.ensures at (c.in-Err.ensures.memory (ap (λ (f : VerifyFault). Err f) same))) c.refusal.ensures)

-- Memory may run out once the list was replayed: then the log is one.
pub returns-in_err-unknown-in-Ok : goal.returns-in_err-unknown-in-Ok
returns-in_err-unknown-in-Ok g c =
    λ log inputs gives.
    let p = err_from_is_err_and c.from_residual.result c.from_residual.ensures.1 in
    let w = (rw (c.deref.ensures.value, c.bytes-log.ensures, c.limit_of-limit.ensures) at c.in-Ok.ensures.watched)
    c.new-watch.result (c.new-watch.ensures.begins [] (omega arith)) in
    let is = w.verdict_is in
    rw (p.1, p.2) (inr (inr (record { table = is.table; events = is.events; log_is = is.log_is }, (Memory, tt, refl))))

pub returns-in_err-answer-in-Ok : goal.returns-in_err-answer-in-Ok
returns-in_err-answer-in-Ok g c =
    λ log inputs gives.
    let p = err_from_is_err_and c.from_residual-in_err-answer-in-Ok.result c.from_residual-in_err-answer-in-Ok.ensures.1 in
    let w = (rw (c.deref.ensures.value, c.bytes-log.ensures, c.limit_of-limit.ensures) at c.in-Ok.ensures.watched)
    c.new-watch.result (c.new-watch.ensures.begins [] (omega arith)) in
    let is = w.verdict_is in
    rw (p.1, p.2)
    (inr (inr (record { table = is.table; events = is.events; log_is = is.log_is }, (Memory, tt, c.in_err-answer-in-Ok.ensures.fault))))

pub returns-in_ok-answer-in-Ok : goal.returns-in_ok-answer-in-Ok
returns-in_ok-answer-in-Ok g c =
    λ log inputs gives.
    let w = (rw (c.deref.ensures.value, c.bytes-log.ensures, c.limit_of-limit.ensures) at c.in-Ok.ensures.watched)
    c.new-watch.result (c.new-watch.ensures.begins [] (omega arith)) in
    let is = w.verdict_is in
    let evidence = evidence_of c.args.self.now in
    let replayed = c.in-Ok.replayed in
    let fresh : IsFresh c.args.self.now.known_files 0 c.new-watch.result =
    subst (λ (known : Option KnownFiles). IsFresh known 0 c.new-watch.result) c.as_ref.ensures.value c.new-watch.ensures.fresh in (
      w.list,
      held gives {came = w.list} w.came,
      record {
        report = replayed.report;
        within = w.came.came.within;
        verdict_is = is;
        unknown_are = told_within c.args.self.now.known_files 0 replayed.report.entries c.new-watch.result c.in-Ok.watch c.in_ok-unknown-in-Ok.unknown
            fresh c.in_ok-unknown-in-Ok.ensures.unknown c.in_ok-unknown-in-Ok.ensures.none is.entries
            (counted_verdict evidence.rule evidence.log w.list evidence.expected _ is) (is.entries, take-length is.entries, w.tracked);
        answer_is = answered_after evidence.quote evidence.signature evidence.values replayed.report evidence.expected c.algs_quoted-algs.result (algs_in is.table)
            is.events is.entries replayed.registers c.in_ok-answer-in-Ok.answer c.algs_quoted-algs.ensures w.registers_are c.in_ok-answer-in-Ok.ensures.answer;
      },
    )
