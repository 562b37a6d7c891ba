use Rattle.std.proofs.Common.{Bor, List, ℕ}
use Rattle.byte_streams.proofs.PieceLaws.{item_fails, item_sent}
use Rattle.byte_streams.proofs.streams.send_pieces.Goals as goal

pub returns-in_err-send : goal.returns-in_err-send
returns-in_err-send g c =
    item_fails _ (λ (piece : Bor (List ℕ)). piece.now) c.args.pieces.now c.loop-piece.piece-index _ _ _ _ _ _ c.loop-piece-test.true
    c.from_residual.ensures.1 c.loop-piece.invariant c.in_err-send.ensures

pub loop-piece-preserved : goal.loop-piece-preserved
loop-piece-preserved g c =
    item_sent (λ (piece : Bor (List ℕ)). piece.now) c.args.pieces.now c.loop-piece.piece-index _ _ _ _ _ c.loop-piece-test.true
    c.loop-piece.invariant c.in_ok-send.ensures
