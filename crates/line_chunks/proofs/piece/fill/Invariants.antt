use Rattle.std.proofs.Common.{◌-◌}
use Rattle.line_chunks.proofs.PieceLaws.{HasGathered}
use Rattle.line_chunks.proofs.piece.fill.Given as goal

abbrev pub invariant-loop-after : goal.invariant-loop-after
invariant-loop-after g l = HasGathered (g.L.Lines.series l.lines) (g.L.Lines.size l.lines) l.capacity l.fn.start l.next l.text.items

abbrev pub decreases-loop-after : goal.decreases-loop-after
decreases-loop-after g l = g.L.Lines.size l.lines - l.next.offset
