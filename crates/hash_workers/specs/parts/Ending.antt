-- What one more job adds to a worker's work, and why a worker takes no more jobs.
use Rattle.std.specs.Prelude.{◌≡◌, ◌≢◌, ◌⊎◌, ℕ, ◌<◌, ◌≤◌, List, [], ◌∷◌, ◌++◌, All, true, Option, Some, None, IfSome, slice_get}
use Rattle.measure_book.specs.declared.origin.Origin.{Origin}
use Rattle.measure_book.specs.declared.fault.BookFault.TheVariants.{Memory}
use Rattle.measure_book.specs.Names.{BookOp, BookOutcome, BookState, IsBook, records_after, refused}
use Rattle.hash_workers.specs.declared.work.End.{End}
use Rattle.hash_workers.specs.declared.work.End.TheVariants.{NoneLeft, OutOfMemory, ForeignBook, NoOperation}
use Rattle.hash_workers.specs.declared.work.Unmade.{Unmade}
use Rattle.hash_workers.specs.declared.fault.JobFault.{JobFault}
use Rattle.hash_workers.specs.declared.fault.JobFault.TheVariants as reasons
use Rattle.hash_workers.specs.declared.work.Turn.{Turn}
use Rattle.hash_workers.specs.declared.work.Turn.TheVariants.{Next, Last}
use Rattle.hash_workers.specs.Reasons.{IsMadeUnlessMemory}
use Rattle.hash_workers.specs.Claims.{SeatState}
use Rattle.hash_workers.specs.Outcomes.{MayBecome, IsOutcomeOf}
use Rattle.hash_workers.specs.parts.Working.{IsEntered, IsForeign, IsDoneAfter, AreDoneInOrder}

-- ---- the private book

-- If the recorder tells a book that nobody else has, it still does afterwards, and this holds of the two.
pub record HasBookAfter (now_told : Option BookState) (Holds : BookState → Type 0) : Type 0 where
  pub after : BookState
  pub tells : now_told ≡ Some after
  pub holds : Holds after

pub record TurnsPrivateBook (told now_told : Option BookState) (Holds : BookState → BookState → Type 0) : Type 0 where
  pub each : (before : BookState) → told ≡ Some before → HasBookAfter now_told (Holds before)

-- ---- an operation, or none if none was made

abbrev pub Becomes : Origin → Option BookOp → BookOutcome → Type 0
Becomes origin None outcome = outcome ≡ refused Memory
Becomes origin (Some op) outcome = MayBecome origin op outcome

abbrev pub Leaves : Origin → Option BookOp → BookState → BookState → BookOutcome → Type 0
Leaves origin None before after outcome = (outcome ≡ refused Memory) × (after ≡ before)
Leaves origin (Some op) before after outcome = IsEntered origin before after op outcome

-- What an operation does to the private book.
abbrev pub TellsOp : Origin → Option BookState → Option BookState → Option BookOp → BookOutcome → Type 0
TellsOp origin told now_told op outcome = TurnsPrivateBook told now_told (λ before after. Leaves origin op before after outcome)

-- The job is taken, with an outcome of this operation.
pub record KeepsOne (origin : Origin) (op : Option BookOp) (job : ℕ) (taken now_taken : List ℕ) (outcomes now_outcomes : List BookOutcome)
    (told now_told : Option BookState) : Type 0 where
  pub outcome : BookOutcome
  pub takes : now_taken ≡ taken ++ job ∷ []
  pub keeps : now_outcomes ≡ outcomes ++ outcome ∷ []
  pub becomes : Becomes origin op outcome
  pub tells : TellsOp origin told now_told op outcome

-- ---- a job

-- What a job does to the private book.
pub record LeavesJob (origin : Origin) (Makes : ℕ → BookOp → Type 0) (before after : BookState) (job : ℕ) (outcome : BookOutcome) :
    Type 0 where
  pub records : after.records ≡ records_after before.records outcome
  pub is_done : IsDoneAfter origin Makes before.records job outcome

abbrev pub TellsJob : Origin → (ℕ → BookOp → Type 0) → Option BookState → Option BookState → ℕ → BookOutcome → Type 0
TellsJob origin Makes told now_told job outcome =
    TurnsPrivateBook told now_told (λ before after. LeavesJob origin Makes before after job outcome)

-- The job, one of `count`, is taken, with an outcome of its own.
pub record TakesOne (origin : Origin) (count : ℕ) (Makes : ℕ → BookOp → Type 0) (job : ℕ) (taken now_taken : List ℕ)
    (outcomes now_outcomes : List BookOutcome) (told now_told : Option BookState) : Type 0 where
  pub outcome : BookOutcome
  pub takes : now_taken ≡ taken ++ job ∷ []
  pub keeps : now_outcomes ≡ outcomes ++ outcome ∷ []
  pub of_job : IsOutcomeOf origin count Makes job outcome
  pub tells : TellsJob origin Makes told now_told job outcome

-- ---- jobs without an operation

-- The job is the unmade one or a later one.
abbrev pub IsFrom : Option Unmade → ℕ → Type 0
IsFrom None job = ⊥
IsFrom (Some unmade) job = unmade.job ≤ job

-- The job has an operation, or it is the unmade one or a later one.
abbrev pub IsHad : (ℕ → BookOp → Type 0) → Option Unmade → ℕ → Type 0
IsHad Makes unmade job = ((op : BookOp) × Makes job op) ⊎ IsFrom unmade job

pub record AreHad (Makes : ℕ → BookOp → Type 0) (taken : List ℕ) (unmade : Option Unmade) : Type 0 where
  pub each : (index job : ℕ) → slice_get taken index ≡ Some job → IsHad Makes unmade job

-- One of these jobs, of `count` in all, has no operation, and this is the reason.
pub record IsTakenUnmade (count : ℕ) (Fails : ℕ → JobFault → Type 0) (taken : List ℕ) (unmade : Unmade) : Type 0 where
  pub index : ℕ
  pub stands : slice_get taken index ≡ Some unmade.job
  pub within : unmade.job < count
  pub reason : Fails unmade.job unmade.fault

-- This job has no operation, for this reason; that is noted as the unmade one, unless one was noted before.
abbrev pub IsNoted : ℕ → JobFault → Option Unmade → Option Unmade → Type 0
IsNoted job fault None new = new ≡ Some (record { job = job; fault = fault })
IsNoted job fault (Some unmade) new = new ≡ Some unmade

-- The operation of each of these jobs was made, unless memory ran out for it.
pub record AreMadeUnlessMemory (Makes : ℕ → BookOp → Type 0) (Fails : ℕ → JobFault → Type 0) (taken : List ℕ) : Type 0 where
  pub each : (index job : ℕ) → slice_get taken index ≡ Some job → IsMadeUnlessMemory Makes Fails job

-- The job's operation could not be made, for a reason other than memory.
pub record IsStopped (Fails : ℕ → JobFault → Type 0) (job : ℕ) : Type 0 where
  pub fault : JobFault
  pub reason : Fails job fault
  pub other : fault ≢ reasons.Memory

-- Whether a worker takes another job after this one: exactly if its operation was made, unless memory ran out for it.
abbrev pub IsTurnAfter : (ℕ → BookOp → Type 0) → (ℕ → JobFault → Type 0) → ℕ → Turn → Type 0
IsTurnAfter Makes Fails job Next = IsMadeUnlessMemory Makes Fails job
IsTurnAfter Makes Fails job Last = IsStopped Fails job

-- Any reason.
abbrev pub AnyReason : ℕ → JobFault → Type 0
AnyReason job fault = Unit {0}

-- The first unmade job before and after this job was taken: what is known of it, and of earlier jobs, stays known.
pub record IsUnmadeAfter (count : ℕ) (Makes : ℕ → BookOp → Type 0) (Fails : ℕ → JobFault → Type 0) (job : ℕ) (taken now_taken : List ℕ)
    (old new : Option Unmade) : Type 0 where
  pub had : IfSome old (λ unmade. unmade.job ≤ job) → IsHad Makes new job
  pub before : (earlier : ℕ) → IsHad Makes old earlier → IsHad Makes new earlier
  pub right : IfSome old (IsTakenUnmade count Fails taken) → IfSome new (IsTakenUnmade count Fails now_taken)

-- A seat drew `taken`, and then numbers above all of these.
pub record DrewBeyond (draws taken : List ℕ) : Type 0 where
  pub rest : List ℕ
  pub draws_are : draws ≡ taken ++ rest
  pub beyond : All (λ number. All (λ drawn. drawn < number) taken) rest

-- ---- all jobs of a worker

-- What all jobs of a worker do to the private book: they were done in their order, and if the worker stopped for a book of
-- another origin, this is such a book.
pub record LeavesAll (origin : Origin) (Makes : ℕ → BookOp → Type 0) (before after : BookState) (taken : List ℕ)
    (outcomes : List BookOutcome) (end : End) : Type 0 where
  pub are_done : AreDoneInOrder origin Makes before.records taken outcomes after.records
  pub foreign : end ≡ ForeignBook → after.origin ≢ origin

abbrev pub TellsAll : Origin → (ℕ → BookOp → Type 0) → Option BookState → Option BookState → List ℕ → List BookOutcome → End → Type 0
TellsAll origin Makes told now_told taken outcomes end =
    TurnsPrivateBook told now_told (λ before after. LeavesAll origin Makes before after taken outcomes end)

-- A worker stops early because memory ran out, with the book as it was, or because the book is of another origin.
abbrev pub StopsFor : Origin → Option BookState → Option BookState → End → Type 0
StopsFor origin told now_told NoneLeft = ⊥
StopsFor origin told now_told OutOfMemory = now_told ≡ told
StopsFor origin told now_told ForeignBook = IsForeign origin told now_told
StopsFor origin told now_told NoOperation = ⊥

-- There is a book of another origin.
pub record IsFound (origin : Origin) : Type 0 where
  pub book : BookState
  pub is_book : IsBook book
  pub other : book.origin ≢ origin

-- Why a worker takes no more jobs. `NoneLeft`: its seat is ended, and drew what the worker took. `NoOperation`: there is a first
-- unmade job, and its seat is ended, and drew what the worker took and then numbers above these, if any. `ForeignBook`: there is a book
-- of another origin.
abbrev pub IsEnd : Origin → SeatState → List ℕ → Option Unmade → End → Type 0
IsEnd origin seat taken unmade NoneLeft = (seat.ended ≡ true) × (seat.draws ≡ taken)
IsEnd origin seat taken unmade NoOperation = (seat.ended ≡ true) × DrewBeyond seat.draws taken × (unmade ≢ None)
IsEnd origin seat taken unmade OutOfMemory = Unit {0}
IsEnd origin seat taken unmade ForeignBook = IsFound origin
