use Rattle.confirming.proofs.PlaceLaws.{ReadsPlaces, left_count}
use Rattle.confirming.proofs.places.read_matching.Given as goal

-- The parts before what is left spell the registers so far.
abbrev pub invariant-loop-rest : goal.invariant-loop-rest
invariant-loop-rest l = ReadsPlaces l.fn.text l.places.items l.rest

abbrev pub decreases-loop-rest : goal.decreases-loop-rest
decreases-loop-rest l = left_count l.rest
