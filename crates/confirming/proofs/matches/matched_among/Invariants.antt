use Rattle.std.proofs.Common.{◌≡◌, take}
use Rattle.pcr_banks.specs.Names.{value_at}
use Rattle.confirming.specs.Matching.{matched_among}
use Rattle.confirming.proofs.matches.matched_among.Given as goal

-- The places are those of the rows so far.
abbrev pub invariant-loop-row : goal.invariant-loop-row
invariant-loop-row l = l.places.items ≡ matched_among (value_at l.registers) l.expected (take l.row-index l.expected)
