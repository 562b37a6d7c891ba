use Rattle.std.proofs.Common.{◌≡◌, ◌++◌, take}
use Rattle.confirming.proofs.PlaceLaws.{later_text}
use Rattle.confirming.proofs.places.write_matching.Given as goal

-- The text is that of the first register, and of the others so far.
abbrev pub invariant-loop-place : goal.invariant-loop-place
invariant-loop-place l = l.text.items ≡ l.initial.text.items ++ later_text (take l.place-index l.others)
