-- What one worker did: its jobs, in the order in which it took them, and what became of each (this project's choice).
use Rattle.std.specs.Prelude.{◌≡◌, ◌≢◌, ◌⊎◌, ℕ, List, [], ◌∷◌, length, slice_get, Option, Some}
use Rattle.measure_book.specs.declared.origin.Origin.{Origin}
use Rattle.measure_book.specs.declared.fault.BookFault.TheVariants.{Memory}
use Rattle.measure_book.specs.Names.{BookOp, BookOutcome, BookRecord, BookState, IsBook, IsOutcome, RunsTo, records_after, refused}
use Rattle.hash_workers.specs.Outcomes.{IsOutcomeOf}

-- Each job that was taken has one outcome of its own.
pub record IsWorked (origin : Origin) (count : ℕ) (Makes : ℕ → BookOp → Type 0) (taken : List ℕ) (outcomes : List BookOutcome) : Type 0 where
  pub pairs : length outcomes ≡ length taken
  pub each : (index job : ℕ) (outcome : BookOutcome) → slice_get taken index ≡ Some job → slice_get outcomes index ≡ Some outcome
      → IsOutcomeOf origin count Makes job outcome

-- An operation is done on a book of this origin: the book before runs to the book after.
pub record IsEntered (origin : Origin) (before after : BookState) (op : BookOp) (outcome : BookOutcome) : Type 0 where
  pub origin_is : before.origin ≡ origin
  pub origin_stays : after.origin ≡ origin
  pub runs : RunsTo origin before.records (op ∷ []) (outcome ∷ []) after.records

-- If the recorder told a book, it was `before`, and now it tells `after`.
pub record Tells (told now_told : Option BookState) (before after : BookState) : Type 0 where
  pub each : (book : BookState) → told ≡ Some book → (book ≡ before) × (now_told ≡ Some after)

-- An operation is recorded: it is done on some book, which is the recorder's if it tells one.
pub record Records (origin : Origin) (told now_told : Option BookState) (op : BookOp) (outcome : BookOutcome) : Type 0 where
  pub before : BookState
  pub after : BookState
  pub entered : IsEntered origin before after op outcome
  pub tells : Tells told now_told before after

-- The book is of another origin, and stays as it is.
pub record IsForeign (origin : Origin) (told now_told : Option BookState) : Type 0 where
  pub found : BookState
  pub is_book : IsBook found
  pub other : found.origin ≢ origin
  pub tells : Tells told now_told found found

-- The job is done, with this outcome, in a book with these records: it is refused because it has no operation, or an operation of
-- it has this outcome after these records.
abbrev pub IsDoneAfter : Origin → (ℕ → BookOp → Type 0) → List BookRecord → ℕ → BookOutcome → Type 0
IsDoneAfter origin Makes before job outcome =
    (outcome ≡ refused Memory) ⊎ ((op : BookOp) × Makes job op × IsOutcome origin before op outcome)

-- The jobs are done in this order, with these outcomes, in a book with the records `old`, which then has the records `new`.
abbrev pub AreDoneInOrder : Origin → (ℕ → BookOp → Type 0) → List BookRecord → List ℕ → List BookOutcome → List BookRecord → Type 0
AreDoneInOrder origin Makes old [] [] new = new ≡ old
AreDoneInOrder origin Makes old [] (outcome ∷ outcomes) new = ⊥
AreDoneInOrder origin Makes old (job ∷ jobs) [] new = ⊥
AreDoneInOrder origin Makes old (job ∷ jobs) (outcome ∷ outcomes) new =
    IsDoneAfter origin Makes old job outcome × AreDoneInOrder origin Makes (records_after old outcome) jobs outcomes new
