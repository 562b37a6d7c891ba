use Rattle.std.proofs.Common.{◌≡◌, ◌≤◌, vec_len, vec_capacity}
use Rattle.hash_workers.proofs.work.all.places.Given as goal

abbrev pub invariant-loop-job : goal.invariant-loop-job
invariant-loop-job l = record { len : vec_len l.outcomes ≡ l._job; room : l.count ≤ vec_capacity l.outcomes }
