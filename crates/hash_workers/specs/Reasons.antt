-- Whether the operations of jobs were made, the first job whose operation could not be made, and the first reason against what the
-- workers got.
use Rattle.std.specs.Prelude.{◌≡◌, ◌⊎◌, ℕ, ◌<◌, List, length, Some}
use Rattle.measure_book.specs.declared.origin.Origin.{Origin}
use Rattle.measure_book.specs.declared.gathers.GatherFault.{GatherFault}
use Rattle.measure_book.specs.Names.{BookOp, BookOutcome, BookState, IsBook, IsFirstFault, outcome_at}
use Rattle.hash_workers.specs.declared.fault.JobFault.{JobFault}
use Rattle.hash_workers.specs.declared.fault.JobFault.TheVariants.{Memory}
use Rattle.hash_workers.specs.Outcomes.{IsAt, IsOutcomeOf}

-- The job's operation was made, unless memory ran out for it.
abbrev pub IsMadeUnlessMemory : (ℕ → BookOp → Type 0) → (ℕ → JobFault → Type 0) → ℕ → Type 0
IsMadeUnlessMemory Makes Fails job = ((op : BookOp) × Makes job op) ⊎ Fails job Memory

-- Each of `count` jobs has an operation, or lacked memory for it.
pub record AllMadeUnlessMemory (count : ℕ) (Makes : ℕ → BookOp → Type 0) (Fails : ℕ → JobFault → Type 0) : Type 0 where
  pub each : (job : ℕ) → job < count → IsMadeUnlessMemory Makes Fails job

-- This job, one of `count`, has no operation, for this reason, and each job before it has one.
pub record IsFirstUnmade (count : ℕ) (Makes : ℕ → BookOp → Type 0) (Fails : ℕ → JobFault → Type 0) (job : ℕ) (fault : JobFault) : Type 0 where
  pub within : job < count
  pub reason : Fails job fault
  pub before : (earlier : ℕ) → earlier < job → (op : BookOp) × Makes earlier op

-- This is the first reason against some book and a group for each of these workers, of outcomes of distinct jobs: `job_of` has the
-- job of each outcome, by worker and index.
pub record IsReasonOf (workers : ℕ) (origin : Origin) (count : ℕ) (Makes : ℕ → BookOp → Type 0) (reason : GatherFault) : Type 0 where
  pub book : BookState
  pub is_book : IsBook book
  pub groups : List (List BookOutcome)
  pub one_each : length groups ≡ workers
  pub job_of : ℕ → ℕ → ℕ
  pub of_jobs : (worker index : ℕ) (outcome : BookOutcome) → outcome_at groups worker index ≡ Some outcome
      → IsOutcomeOf origin count Makes (job_of worker index) outcome
  pub distinct : (worker other index at : ℕ) (outcome another : BookOutcome) → outcome_at groups worker index ≡ Some outcome
      → outcome_at groups other at ≡ Some another → job_of worker index ≡ job_of other at → (worker ≡ other) × (index ≡ at)
  pub first : IsFirstFault book origin groups reason

-- The first reason against outcomes of jobs that become these operations.
abbrev pub IsReasonAmong : ℕ → Origin → List BookOp → GatherFault → Type 0
IsReasonAmong workers origin ops reason = IsReasonOf workers origin (length ops) (IsAt ops) reason
