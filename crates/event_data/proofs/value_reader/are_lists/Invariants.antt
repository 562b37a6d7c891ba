use Rattle.std.proofs.Common.{◌≡◌, length}
use Rattle.event_data.specs.Names.{lists_in, lists_left}
use Rattle.event_data.proofs.value_reader.are_lists.Given as goal

abbrev pub invariant-loop : goal.invariant-loop
invariant-loop l = (lists_in (lists_left l.lists)).1 ≡ (lists_in l.fn.bytes).1

abbrev pub decreases-loop : goal.decreases-loop
decreases-loop l = length (lists_left l.lists)
