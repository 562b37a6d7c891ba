use Rattle.std.proofs.Common.{◌≡◌, map}
use Rattle.hash_workers.specs.Names.{items_of, outcomes_of, seat_of, taken_of}
use Rattle.hash_workers.proofs.work.all.split.Given as goal

abbrev pub invariant-loop-work : goal.invariant-loop-work
invariant-loop-work l = record {
  takings : map items_of l.takings.items ≡ map taken_of l.yielded;
  seats : l.seats.items ≡ map seat_of l.yielded;
  groups : map items_of l.groups.items ≡ map outcomes_of l.yielded;
}
