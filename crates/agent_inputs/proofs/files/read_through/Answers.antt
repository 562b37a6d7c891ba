use Rattle.std.proofs.Common.{arith}
use Rattle.std.proofs.lemmas.Result.{err_from_is_err_and}
use Rattle.agent_inputs.proofs.LoadingLemmas.{drained_failed, drained_more, passed_more, passed_none, passed_over, read_fault_is_not_too_long}
use Rattle.agent_inputs.proofs.files.read_through.Goals as goal

pub loop-piece-init : goal.loop-piece-init
loop-piece-init g c = record { passed = passed_none _ _; none = cc }

pub loop-piece-preserved : goal.loop-piece-preserved
loop-piece-preserved g c =
    let known = c.in_ok-count.ensures in
    record { passed = passed_more _ _ _ c.loop-piece.invariant.passed known.gives known.telling known.counts (omega arith) (omega arith); none = cc }

pub returns-in_err-count-clause-more : goal.returns-in_err-count-clause-more
returns-in_err-count-clause-more g c =
    let p = err_from_is_err_and c.from_residual.result c.from_residual.ensures.1 in
    λ is. absurd (read_fault_is_not_too_long c.in_err-count.field-0.0 (cc (p.1, p.2)))

pub returns-in_err-count-clause-drains : goal.returns-in_err-count-clause-drains
returns-in_err-count-clause-drains g c =
    let p = err_from_is_err_and c.from_residual.result c.from_residual.ensures.1 in
    let known = c.in_err-count.ensures in
    rw (p.1, p.2) (drained_failed _ _ _ _ c.in_err-count.field-0.0 c.loop-piece.invariant.passed.has known.kept known.telling known.counts)

pub returns-then-count-room-clause-drains : goal.returns-then-count-room-clause-drains
returns-then-count-room-clause-drains g c =
    let known = c.in_ok-count.ensures in
    let over = passed_over _ _ _ c.loop-piece.invariant.passed known.gives known.telling known.counts (omega (arith, c.if-count-room.true)) in
    drained_more _ _ _ over.1 over.2
