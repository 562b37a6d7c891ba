use Rattle.std.proofs.Common.{◌*◌, ◌≤◌, length}
use Rattle.boot_answers.specs.parts.CommonLengths.{IsFilled}
use Rattle.boot_answers.proofs.alike_events.lengths.Given as goal

-- The rows from this one on are written.
abbrev pub invariant-loop-first : goal.invariant-loop-first
invariant-loop-first l = (l.first ≤ length l.now) × IsFilled l.now l.before (l.first * 257) l.cells.items

abbrev pub decreases-loop-first : goal.decreases-loop-first
decreases-loop-first l = l.first
