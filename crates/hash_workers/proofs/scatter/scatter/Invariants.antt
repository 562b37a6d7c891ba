use Rattle.std.proofs.Common.{◌≡◌, ◌≤◌, ℕ, length, map, vec_len, Some}
use Rattle.std.specs.Prelude.{slice_get, Vec}
use Rattle.std.specs.declared.alloc.Global.{Global}
use Rattle.measure_book.specs.declared.op.Outcome.{Outcome}
use Rattle.hash_workers.specs.Names.{AreScattered, items_of}
use Rattle.hash_workers.proofs.scatter.scatter.Given as goal

abbrev pub invariant-loop-group : goal.invariant-loop-group
invariant-loop-group l = record {
  within : vec_len l.groups ≤ length l.takings;
  prefix : (worker : ℕ) (group : Vec Outcome Global) → slice_get l.groups.items worker ≡ Some group
      → slice_get l.fn.groups.items worker ≡ Some group;
  scattered : AreScattered (map items_of l.takings) (map items_of l.fn.groups.items) (vec_len l.groups) l.outcomes.items l.by.items;
  outcomes_len : vec_len l.outcomes ≡ vec_len l.fn.outcomes;
  by_len : vec_len l.by ≡ vec_len l.fn.by;
}

abbrev pub decreases-loop-group : goal.decreases-loop-group
decreases-loop-group l = vec_len l.groups
