use Rattle.std.proofs.Common.{length}
use Rattle.byte_streams.proofs.SinkLaws.{IsSent}
use Rattle.terminal_colors.specs.Lines.{colored_lines}
use Rattle.terminal_colors.proofs.lines.send_lines.Given as goal

abbrev pub invariant-loop-rest : goal.invariant-loop-rest
invariant-loop-rest g l = IsSent (g.S.Sink.state l.fn.sink) (g.S.Sink.state l.sink) (colored_lines l.text) (colored_lines l.rest)

abbrev pub decreases-loop-rest : goal.decreases-loop-rest
decreases-loop-rest g l = length l.rest
