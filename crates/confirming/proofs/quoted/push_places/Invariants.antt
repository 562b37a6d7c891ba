use Rattle.std.proofs.Common.{◌≡◌, ◌++◌}
use Rattle.confirming.proofs.QuotedLaws.{below}
use Rattle.confirming.proofs.quoted.push_places.Given as goal

-- The places are those before, and those of the registers so far.
abbrev pub invariant-loop-register : goal.invariant-loop-register
invariant-loop-register l = l.places.items ≡ l.initial.places.items ++ below l.required l.selection.alg l.selection.bits.items l.register
