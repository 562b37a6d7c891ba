use Rattle.std.proofs.Common.{◌≡◌, ◌+◌, ◌-◌, ◌*◌, ◌≤◌, get_or, length}
use Rattle.boot_answers.specs.CommonEvents.{IsCommon, marked}
use Rattle.boot_answers.proofs.alike_events.marked.Given as goal

-- The marks so far are common, and with a longest common subsequence of what is left there is a longest one of all.
abbrev pub invariant-loop-common : goal.invariant-loop-common
invariant-loop-common l =
    (length l.common.now.items ≤ length l.now) × (length l.common.before.items ≤ length l.before)
    × IsCommon l.now l.before l.common.now.items l.common.before.items
    × (length (marked l.common.now.items l.now) + get_or l.cells (length l.common.now.items * 257 + length l.common.before.items) 0
    ≡ get_or l.cells 0 0)

abbrev pub decreases-loop-common : goal.decreases-loop-common
decreases-loop-common l = (length l.now - length l.common.now.items) + (length l.before - length l.common.before.items)
