-- What becomes of a job: the operation that is made of it, and the outcome of that operation (this project's choice).
use Rattle.std.specs.Prelude.{◌≡◌, ◌⊎◌, ℕ, ◌<◌, List, slice_get, Some}
use Rattle.measure_book.specs.declared.origin.Origin.{Origin}
use Rattle.measure_book.specs.declared.fault.BookFault.TheVariants.{Memory}
use Rattle.measure_book.specs.Names.{BookOp, BookOutcome, done, refusal_of, refused}

-- Which operation a job becomes is a relation, `Makes`, by the job's number: some jobs may become one of several, such as a file
-- whose content is not told.

-- The job becomes the operation of its number in the list.
abbrev pub IsAt : List BookOp → ℕ → BookOp → Type 0
IsAt ops job op = slice_get ops job ≡ Some op

-- What becomes of an operation is said in two ways. `MayBecome`, `IsOutcomeOf` and `Becomes` speak of no history: they are known
-- even of a book that others use, whatever it had before. `IsOutcome` of the book and `IsDoneAfter` speak of the records before:
-- they are known only of a book whose history is known.

-- What becomes of an operation, whatever the book had before: it is done, with a receipt of its own; or refused because memory
-- ran out, or for the first reason that holds after some number of records.
abbrev pub MayBecome : Origin → BookOp → BookOutcome → Type 0
MayBecome origin op (done receipt) = receipt.operation ≡ op
MayBecome origin op (refused fault) = (fault ≡ Memory) ⊎ ((count : ℕ) × (refusal_of origin count op ≡ Some fault))

-- The outcome is one of this job, of `count` in all: refused because memory ran out, or an outcome of an operation of the job.
pub record IsOutcomeOf (origin : Origin) (count : ℕ) (Makes : ℕ → BookOp → Type 0) (job : ℕ) (outcome : BookOutcome) : Type 0 where
  pub within : job < count
  pub becomes : (outcome ≡ refused Memory) ⊎ ((op : BookOp) × Makes job op × MayBecome origin op outcome)
