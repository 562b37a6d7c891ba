use Rattle.std.proofs.Common.{◌≡◌, ◌≤◌, ℕ, length, vec_len, Some}
use Rattle.std.specs.Prelude.{slice_get}
use Rattle.measure_book.specs.declared.op.Outcome.{Outcome}
use Rattle.hash_workers.specs.Names.{AreKept, ArePlaced}
use Rattle.hash_workers.proofs.scatter.place.Given as goal

abbrev pub invariant-loop-outcome : goal.invariant-loop-outcome
invariant-loop-outcome l = record {
  within : vec_len l.group ≤ length l.taken;
  prefix : (index : ℕ) (outcome : Outcome) → slice_get l.group.items index ≡ Some outcome
      → slice_get l.fn.group.items index ≡ Some outcome;
  placed : ArePlaced l.taken l.fn.group.items l.worker (vec_len l.group) l.outcomes.items l.by.items;
  kept : AreKept l.taken (vec_len l.group) l.fn.outcomes.items l.outcomes.items l.fn.by.items l.by.items;
  outcomes_len : vec_len l.outcomes ≡ vec_len l.fn.outcomes;
  by_len : vec_len l.by ≡ vec_len l.fn.by;
}

abbrev pub decreases-loop-outcome : goal.decreases-loop-outcome
decreases-loop-outcome l = vec_len l.group
