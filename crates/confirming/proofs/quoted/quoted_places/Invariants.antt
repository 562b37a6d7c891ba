use Rattle.std.proofs.Common.{◌≡◌, take}
use Rattle.confirming.proofs.QuotedLaws.{places_of}
use Rattle.confirming.proofs.quoted.quoted_places.Given as goal

-- The places are those of the selections so far.
abbrev pub invariant-loop-selection : goal.invariant-loop-selection
invariant-loop-selection l = l.places.items ≡ places_of l.required (take l.selection-index l.selections)
