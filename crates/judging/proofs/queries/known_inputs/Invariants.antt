use Rattle.std.proofs.Common.{◌≡◌, map, take}
use Rattle.judging.specs.Requests.{location_of}
use Rattle.judging.specs.Queries.{file_of}
use Rattle.judging.proofs.queries.known_inputs.Given as goal

-- The inputs are the files of the names so far.
abbrev pub invariant-loop-name : goal.invariant-loop-name
invariant-loop-name l = map location_of l.inputs.items ≡ map file_of (take l.name-index l.name-items)
