use Rattle.std.proofs.Common.{arith}
use Rattle.std.proofs.lemmas.Result.{err_from_is_err_and}
use Rattle.agent_inputs.proofs.LoadingLemmas.{lost_nothing, lost_piece, whole}
use Rattle.hints.proofs.HintLaws.{failed_after, head_of_all, head_of_more}
use Rattle.hints.proofs.reread.first_bytes.Goals as goal

pub loop-pieces-init : goal.loop-pieces-init
loop-pieces-init g c = lost_nothing _ _ (cc)

pub loop-pieces-preserved : goal.loop-pieces-preserved
loop-pieces-preserved g c =
    lost_piece _ _ _ _ c.loop-pieces.invariant c.in_ok-count.ensures.gives c.in_ok-count.ensures.telling c.in_ok-count.ensures.counts

pub returns-in_err-count-clause-head : goal.returns-in_err-count-clause-head
returns-in_err-count-clause-head g c = let p = err_from_is_err_and c.from_residual.result c.from_residual.ensures.1 in rw p.1 tt

pub returns-in_err-count-clause-failing : goal.returns-in_err-count-clause-failing
returns-in_err-count-clause-failing g c =
    let p = err_from_is_err_and c.from_residual.result c.from_residual.ensures.1 in
    let known = c.in_err-count.ensures in
    λ is. failed_after _ _ _ c.in_err-count.field-0.0 c.loop-pieces.invariant known.telling known.counts (cc (p.1, p.2))

pub returns-then-count-eq0-clause-head : goal.returns-then-count-eq0-clause-head
returns-then-count-eq0-clause-head g c =
    let gives = c.in_ok-count.ensures.gives in
    let has = lost_piece _ _ _ _ c.loop-pieces.invariant gives c.in_ok-count.ensures.telling c.in_ok-count.ensures.counts in
    head_of_all _ _ (whole _ _ _ has.lost (gives.end c.if-count-eq0.true))

pub returns-clause-head : goal.returns-clause-head
returns-clause-head g c = head_of_more _ _ _ c.loop-pieces.invariant.lost (omega arith)
