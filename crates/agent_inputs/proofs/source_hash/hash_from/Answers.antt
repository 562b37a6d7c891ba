use Rattle.std.proofs.Common.{◌<◌, ◌≤◌, length, refl, ◌∙◌, arith}
use Rattle.std.proofs.lemmas.Result.{err_from_is_err_and}
use Rattle.byte_streams.specs.declared.piece_reader.ReadFault.TheVariants.{Memory, Source}
use Rattle.agent_inputs.proofs.HashingLaws.{hashed_all, hashed_more, hashed_nothing, past_room, read_back}
use Rattle.agent_inputs.proofs.LoadingLemmas.{drained_all, drained_failed, drained_more, had, kept_same, lost_more}
use Rattle.agent_inputs.proofs.source_hash.hash_from.Goals as goal

pub loop-piece-init : goal.loop-piece-init
loop-piece-init g c = record { hashed = hashed_nothing _ _ _ _ c.new-hasher.ensures; some = omega arith }

pub loop-piece-preserved : goal.loop-piece-preserved
loop-piece-preserved g c =
    let gives = c.in_ok-count.ensures.gives in
    let has : c.in_ok-count.count ≤ length c.read.new.buffer = omega (arith, c.in_ok-count.ensures.within) in
    let filled = c.deref.ensures.value ∙ read_back c.read.new.buffer c.resize.new.self.items c.resize.new.self.len (omega (arith, c.deref_mut.ensures.len)) in
    let lost = lost_more _ _ _ _ c.loop-piece.invariant.hashed.has gives.gives.0 gives.telling gives.counts in
    record {
      hashed = hashed_more _ _ c.loop-piece.invariant.hashed _ c.update.new.self c.read.new.buffer c.deref.result.now c.in_ok-count.count lost
          has filled c.if-count-room.false c.update.ensures;
      some = c.loop-piece.invariant.some;
    }

pub returns-in_err-resize-clause-hashed : goal.returns-in_err-resize-clause-hashed
returns-in_err-resize-clause-hashed g c =
    let p = err_from_is_err_and c.from_residual.result c.from_residual.ensures.1 in rw p.1 tt

pub returns-in_err-resize-clause-drains : goal.returns-in_err-resize-clause-drains
returns-in_err-resize-clause-drains g c =
    let p = err_from_is_err_and c.from_residual.result c.from_residual.ensures.1 in
    rw (p.1, p.2) (drained_failed _ _ _ _ Memory c.loop-piece.invariant.hashed.has (kept_same _) refl refl)

pub returns-in_err-count-clause-hashed : goal.returns-in_err-count-clause-hashed
returns-in_err-count-clause-hashed g c =
    let p = err_from_is_err_and c.from_residual-in_err-count.result c.from_residual-in_err-count.ensures.1 in rw p.1 tt

pub returns-in_err-count-clause-drains : goal.returns-in_err-count-clause-drains
returns-in_err-count-clause-drains g c =
    let p = err_from_is_err_and c.from_residual-in_err-count.result c.from_residual-in_err-count.ensures.1 in
    let gives = c.in_err-count.ensures.gives in
    rw (p.1, p.2) (drained_failed _ _ _ _ Source c.loop-piece.invariant.hashed.has gives.gives gives.telling gives.counts)

pub returns-then-count-eq0-clause-hashed : goal.returns-then-count-eq0-clause-hashed
returns-then-count-eq0-clause-hashed g c =
    let gives = c.in_ok-count.ensures.gives in
    let none = c.if-count-eq0.true in
    let some : 0 < length c.read.new.buffer = omega (arith, c.in_ok-resize.ensures.len) in
    let lost = lost_more _ _ _ _ c.loop-piece.invariant.hashed.has (rw none at gives.gives.0) gives.telling gives.counts in
    hashed_all _ _ c.loop-piece.invariant.hashed _ c.finish.result lost (gives.gives.1 none some) c.finish.ensures

pub returns-then-count-eq0-clause-drains : goal.returns-then-count-eq0-clause-drains
returns-then-count-eq0-clause-drains g c =
    let gives = c.in_ok-count.ensures.gives in
    let some : 0 < length c.read.new.buffer = omega (arith, c.in_ok-resize.ensures.len) in
    drained_all _ _ _ _ (lost_more _ _ _ _ c.loop-piece.invariant.hashed.has gives.gives.0 gives.telling gives.counts)
    (gives.gives.1 c.if-count-eq0.true some)

pub returns-then-count-room-clause-more : goal.returns-then-count-room-clause-more
returns-then-count-room-clause-more g c = λ _.
    let gives = c.in_ok-count.ensures.gives in
    let has : c.in_ok-count.count ≤ length c.read.new.buffer = omega (arith, c.in_ok-count.ensures.within) in
    had _ _ _ _ (lost_more _ _ _ _ c.loop-piece.invariant.hashed.has gives.gives.0 gives.telling gives.counts).lost
    (past_room _ _ c.loop-piece.invariant.hashed _ _ has c.if-count-room.true)

pub returns-then-count-room-clause-drains : goal.returns-then-count-room-clause-drains
returns-then-count-room-clause-drains g c =
    let gives = c.in_ok-count.ensures.gives in
    let has : c.in_ok-count.count ≤ length c.read.new.buffer = omega (arith, c.in_ok-count.ensures.within) in
    drained_more _ _ _ (lost_more _ _ _ _ c.loop-piece.invariant.hashed.has gives.gives.0 gives.telling gives.counts)
    (past_room _ _ c.loop-piece.invariant.hashed _ _ has c.if-count-room.true)
