use Rattle.std.proofs.Common.{◌+◌, ◌*◌, ◌≤◌, length}
use Rattle.boot_answers.specs.parts.CommonLengths.{IsFilled}
use Rattle.boot_answers.proofs.alike_events.write_row.Given as goal

-- The cells from this one on are written.
abbrev pub invariant-loop-other : goal.invariant-loop-other
invariant-loop-other l = (l.other ≤ length l.before) × IsFilled l.now l.before (l.first * 257 + l.other) l.cells.items

abbrev pub decreases-loop-other : goal.decreases-loop-other
decreases-loop-other l = l.other
