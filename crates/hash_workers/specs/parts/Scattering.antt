-- What workers took, put in the order of the jobs.
use Rattle.std.specs.Prelude.{◌≡◌, ◌≢◌, ℕ, ◌<◌, ◌≤◌, List, length, slice_get, Some, Vec, option_and_then, Option}
use Rattle.std.specs.declared.alloc.Global.{Global}
use Rattle.hash_workers.specs.parts.Taking.{Took}

abbrev pub items_of : {T : Type 0} → Vec T Global → List T
items_of v = v.items

-- ---- one worker

pub record AreBelow (count : ℕ) (taken : List ℕ) : Type 0 where
  pub each : (index job : ℕ) → slice_get taken index ≡ Some job → job < count

-- From an index on, each of the worker's jobs has the outcome that the worker has for it.
pub record ArePlaced {X : Type 0} (taken : List ℕ) (group : List X) (worker from : ℕ) (outcomes : List X) (by : List ℕ) : Type 0 where
  pub each : (index job : ℕ) (outcome : X) → from ≤ index → slice_get taken index ≡ Some job → slice_get group index ≡ Some outcome
      → (slice_get outcomes job ≡ Some outcome) × (slice_get by job ≡ Some worker)

-- Jobs that are not among the worker's from an index on keep what they had.
pub record AreKept {X : Type 0} (taken : List ℕ) (from : ℕ) (old new : List X) (by now_by : List ℕ) : Type 0 where
  pub each : (job : ℕ) → ((index : ℕ) → from ≤ index → slice_get taken index ≢ Some job)
      → (slice_get new job ≡ slice_get old job) × (slice_get now_by job ≡ slice_get by job)

-- ---- all workers

-- Each worker has as many outcomes as jobs.
pub record ArePairs {X : Type 0} (takings : List (List ℕ)) (groups : List (List X)) : Type 0 where
  pub workers : length groups ≡ length takings
  pub each : (worker : ℕ) (taken : List ℕ) (group : List X) → slice_get takings worker ≡ Some taken → slice_get groups worker ≡ Some group
      → length group ≡ length taken

-- What a worker has at an index.
abbrev pub got_at : {X : Type 0} → List (List X) → ℕ → ℕ → Option X
got_at groups worker index = option_and_then (λ group. slice_get group index) (slice_get groups worker)

-- The jobs of all workers from this one on have the outcomes that the workers have for them.
pub record AreScattered {X : Type 0} (takings : List (List ℕ)) (groups : List (List X)) (first : ℕ) (outcomes : List X) (by : List ℕ) :
    Type 0 where
  pub each : (worker index job : ℕ) (outcome : X) → first ≤ worker → Took takings worker index job
      → got_at groups worker index ≡ Some outcome
      → (slice_get outcomes job ≡ Some outcome) × (slice_get by job ≡ Some worker)
