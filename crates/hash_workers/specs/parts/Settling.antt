-- What all workers did, how it is settled with the book, and why it cannot be.
use Rattle.std.specs.Prelude.{◌≡◌, ◌≢◌, ◌⊎◌, ℕ, ◌<◌, Bool, true, false, List, length, map, vec_len, Some, None, Option, IfSome}
use Rattle.std.specs.List.{concat}
use Rattle.measure_book.specs.declared.origin.Origin.{Origin}
use Rattle.measure_book.specs.declared.gathers.GatherFault.{GatherFault}
use Rattle.measure_book.specs.declared.gathers.GatherFault.TheVariants as gathers
use Rattle.measure_book.specs.Names.{BookOp, BookOutcome, BookState, IsBook, IsFirstFault, groups_of, outcome_at}
use Rattle.hash_workers.specs.declared.fault.JobFault.{JobFault}
use Rattle.hash_workers.specs.declared.fault.JobsFault.{JobsFault}
use Rattle.hash_workers.specs.declared.work.End.TheVariants.{OutOfMemory, ForeignBook, NoOperation}
use Rattle.hash_workers.specs.declared.work.Unmade.{Unmade}
use Rattle.hash_workers.specs.declared.work.Work.{Work}
use Rattle.hash_workers.specs.declared.work.all.AllWork.{AllWork}
use Rattle.hash_workers.specs.Faults.{jobs_fault_of_gather}
use Rattle.hash_workers.specs.parts.Faults.{fault_of_unmade}
use Rattle.hash_workers.specs.Claims.{HandsOutEach}
use Rattle.hash_workers.specs.parts.Taking.{IsTaken, Took, NumbersRiseForEach}
use Rattle.hash_workers.specs.Outcomes.{IsOutcomeOf}
use Rattle.hash_workers.specs.parts.Ending.{IsFound}
use Rattle.hash_workers.specs.parts.Scattering.{ArePairs, items_of}
use Rattle.hash_workers.specs.parts.Seats.{HasEnd, HasNoEnd, IsLeastUnmade, outcomes_of, taken_of}
use Rattle.hash_workers.specs.Reasons.{AllMadeUnlessMemory, IsFirstUnmade}

-- ---- what all workers did

-- The jobs that the workers took, and their outcomes, from the code's values.
abbrev pub takings_of : AllWork → List (List ℕ)
takings_of all = map items_of all.takings.items

abbrev pub outcomes_by_worker : AllWork → List (List BookOutcome)
outcomes_by_worker all = groups_of all.groups.items

-- This is the first unmade job of these workers; none only if no worker stopped for one.
pub record IsUnmadeOf (works : List Work) (unmade : Option Unmade) : Type 0 where
  pub none : unmade ≡ None → HasNoEnd works NoOperation (length works)
  pub some : unmade ≢ None → IsLeastUnmade works (length works) unmade

-- Each job before this one was taken.
abbrev pub AreTakenBefore : List (List ℕ) → Unmade → Type 0
AreTakenBefore takings unmade = (job : ℕ) → job < unmade.job → IsTaken takings job

-- This is what these workers did, none of which ran out of memory, with places for `count` outcomes unless a job is unmade.
pub record IsMadeOf (works : List Work) (count : ℕ) (all : AllWork) : Type 0 where
  pub takings : takings_of all ≡ map taken_of works
  pub groups : map items_of all.groups.items ≡ map outcomes_of works
  pub memory : HasNoEnd works OutOfMemory (length works)
  pub foreign : all.foreign ≡ true → HasEnd works ForeignBook
  pub same : all.foreign ≡ false → HasNoEnd works ForeignBook (length works)
  pub unmade : IsUnmadeOf works all.unmade
  pub places : all.unmade ≡ None → vec_len all.outcomes ≡ count
  pub places_by : all.unmade ≡ None → vec_len all.by ≡ count

-- What all of this number of workers did: their jobs rise, and each has an outcome of its own. Each of the `count` jobs was taken
-- once, and its operation made unless memory ran out for it; or a worker stopped for a book of another origin, which it found, or for
-- the first job without an operation.
pub record IsAllWork (origin : Origin) (count : ℕ) (Makes : ℕ → BookOp → Type 0) (Fails : ℕ → JobFault → Type 0) (workers : ℕ)
    (all : AllWork) : Type 0 where
  pub one_each : length all.takings.items ≡ workers
  pub pairs : ArePairs (takings_of all) (map items_of all.groups.items)
  pub of_jobs : (worker index job : ℕ) (outcome : BookOutcome) → Took (takings_of all) worker index job
      → outcome_at (outcomes_by_worker all) worker index ≡ Some outcome → IsOutcomeOf origin count Makes job outcome
  pub rise : NumbersRiseForEach (takings_of all)
  pub each : all.foreign ≡ false → all.unmade ≡ None → HandsOutEach count (concat (takings_of all))
  pub made : all.foreign ≡ false → all.unmade ≡ None → AllMadeUnlessMemory count Makes Fails
  pub found : all.foreign ≡ true → IsFound origin
  pub unmade : all.foreign ≡ false → IfSome all.unmade (λ unmade. IsFirstUnmade count Makes Fails unmade.job unmade.fault)
  pub places : all.unmade ≡ None → vec_len all.outcomes ≡ count
  pub places_by : all.unmade ≡ None → vec_len all.by ≡ count

-- ---- why there is no batch

-- The first reason against a book and the workers' outcomes: a worker found a book of another origin; else what `gather` says.
abbrev pub IsFirstReason : Bool → BookState → Origin → List (List BookOutcome) → GatherFault → Type 0
IsFirstReason true book origin groups reason = reason ≡ gathers.ForeignBook
IsFirstReason false book origin groups reason = IsBook book × IsFirstFault book origin groups reason

-- The fault is that of the first reason against the book and the workers' outcomes. It comes after that of an unmade job, unless a
-- worker found a book of another origin.
pub record IsUnaccounted (foreign : Bool) (first_unmade : Option Unmade) (book : BookState) (origin : Origin) (groups : List (List BookOutcome))
    (fault : JobsFault) : Type 0 where
  pub made : foreign ≡ false → first_unmade ≡ None
  pub reason : GatherFault
  pub first : IsFirstReason foreign book origin groups reason
  pub fault_is : fault ≡ jobs_fault_of_gather reason

-- The fault is that of the first unmade job, and no worker found a book of another origin.
pub record IsUnmade (foreign : Bool) (first : Option Unmade) (fault : JobsFault) : Type 0 where
  pub unmade : Unmade
  pub same : foreign ≡ false
  pub first_is : first ≡ Some unmade
  pub fault_is : fault ≡ fault_of_unmade unmade

abbrev pub IsUnsettled : AllWork → BookState → Origin → JobsFault → Type 0
IsUnsettled all book origin fault =
    IsUnaccounted all.foreign all.unmade book origin (outcomes_by_worker all) fault ⊎ IsUnmade all.foreign all.unmade fault
