use Rattle.std.proofs.Common.{[], length}
use Rattle.event_data.specs.Names.{list_of, signatures_in, signatures_left, signatures_of, size_of}
use Rattle.event_lines.specs.ValueJson.{owners_after}
use Rattle.cells.proofs.WrittenLaws.{HasLeft}
use Rattle.event_lines.proofs.values.write_owners.Given as goal

abbrev pub invariant-loop-signature : goal.invariant-loop-signature
invariant-loop-signature l =
    HasLeft l.initial.writer l.writer (owners_after l.before (signatures_in (size_of l.left) (signatures_left l.left)).0)
    (owners_after [] (signatures_of (list_of l.list)))

abbrev pub decreases-loop-signature : goal.decreases-loop-signature
decreases-loop-signature l = length (signatures_left l.left)
