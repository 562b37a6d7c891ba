use Rattle.std.proofs.Common.{length}
use Rattle.byte_streams.proofs.SinkLaws.{IsSent}
use Rattle.byte_streams.proofs.streams.send.Given as goal

abbrev pub invariant-loop-rest : goal.invariant-loop-rest
invariant-loop-rest g l = IsSent (g.S.Sink.state l.fn.sink) (g.S.Sink.state l.sink) l.bytes l.rest

abbrev pub decreases-loop-rest : goal.decreases-loop-rest
decreases-loop-rest g l = length l.rest
