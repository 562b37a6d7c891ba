use Rattle.std.proofs.Common.{take}
use Rattle.std.specs.Prelude.{flat_map}
use Rattle.byte_streams.proofs.SinkLaws.{Sent}
use Rattle.byte_streams.proofs.streams.send_pieces.Given as goal

abbrev pub invariant-loop-piece : goal.invariant-loop-piece
invariant-loop-piece g l =
    Sent (g.S.Sink.state l.initial.sink) (g.S.Sink.state l.sink) (flat_map (λ piece. piece.now) (take l.piece-index l.pieces))
