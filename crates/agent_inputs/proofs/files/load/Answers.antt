use Rattle.std.proofs.Common.{arith}
use Rattle.std.proofs.lemmas.Result.{err_from_is_err_and}
use Rattle.agent_inputs.proofs.LoadingLemmas.{drained_all, drained_failed, lost_nothing, lost_piece, read_fault_is_not_too_long, whole}
use Rattle.agent_inputs.proofs.files.load.Goals as goal

pub loop-bytes-init : goal.loop-bytes-init
loop-bytes-init g c = record { has = lost_nothing _ _ (cc); within = omega arith }

pub loop-bytes-preserved : goal.loop-bytes-preserved
loop-bytes-preserved g c = record {
  has = lost_piece _ _ _ _ c.loop-bytes.invariant.has c.in_ok-count.ensures.gives c.in_ok-count.ensures.telling c.in_ok-count.ensures.counts;
  within = omega arith;
}

pub returns-in_err-count-clause-all : goal.returns-in_err-count-clause-all
returns-in_err-count-clause-all g c =
    let p = err_from_is_err_and c.from_residual.result c.from_residual.ensures.1 in rw p.1 tt

pub returns-in_err-count-clause-within : goal.returns-in_err-count-clause-within
returns-in_err-count-clause-within g c =
    let p = err_from_is_err_and c.from_residual.result c.from_residual.ensures.1 in rw p.1 tt

pub returns-in_err-count-clause-more : goal.returns-in_err-count-clause-more
returns-in_err-count-clause-more g c =
    let p = err_from_is_err_and c.from_residual.result c.from_residual.ensures.1 in
    λ is. absurd (read_fault_is_not_too_long c.in_err-count.field-0.0 (cc (p.1, p.2)))

pub returns-in_err-count-clause-drains : goal.returns-in_err-count-clause-drains
returns-in_err-count-clause-drains g c =
    let p = err_from_is_err_and c.from_residual.result c.from_residual.ensures.1 in
    let known = c.in_err-count.ensures in
    rw (p.1, p.2) (drained_failed _ _ _ _ c.in_err-count.field-0.0 c.loop-bytes.invariant.has known.kept known.telling known.counts)

pub returns-then-count-eq0-clause-all : goal.returns-then-count-eq0-clause-all
returns-then-count-eq0-clause-all g c =
    let gives = c.in_ok-count.ensures.gives in
    let has = lost_piece _ _ _ _ c.loop-bytes.invariant.has gives c.in_ok-count.ensures.telling c.in_ok-count.ensures.counts in
    whole _ _ _ has.lost (gives.end c.if-count-eq0.true)

pub returns-then-count-eq0-clause-drains : goal.returns-then-count-eq0-clause-drains
returns-then-count-eq0-clause-drains g c =
    let gives = c.in_ok-count.ensures.gives in
    drained_all _ _ _ _ (lost_piece _ _ _ _ c.loop-bytes.invariant.has gives c.in_ok-count.ensures.telling c.in_ok-count.ensures.counts)
    (gives.end c.if-count-eq0.true)
