-- What became of the jobs, in the order of the jobs (this project's choice).
use Rattle.std.specs.Prelude.{◌≡◌, ◌≢◌, ℕ, ◌<◌, List, length, slice_get, Some}
use Rattle.measure_book.specs.declared.origin.Origin.{Origin}
use Rattle.measure_book.specs.declared.fault.BookFault.{BookFault}
use Rattle.measure_book.specs.declared.fault.BookFault.TheVariants.{Memory}
use Rattle.measure_book.specs.Names.{BookOp, BookOutcome, BookReceipt, BookState, NamesRecord, done, refusal_of, refused}
use Rattle.hash_workers.specs.Outcomes.{IsAt}

-- The job is done, with this receipt.
abbrev pub IsDone : List BookOutcome → ℕ → BookReceipt → Type 0
IsDone outcomes job receipt = slice_get outcomes job ≡ Some (done receipt)

-- The receipt is of an operation of this job.
pub record IsReceiptOfJob (Makes : ℕ → BookOp → Type 0) (job : ℕ) (receipt : BookReceipt) : Type 0 where
  pub op : BookOp
  pub has : Makes job op
  pub operation : receipt.operation ≡ op

-- After `count` records, this is the first reason against an operation of the job.
pub record IsRefusalOfJob (origin : Origin) (Makes : ℕ → BookOp → Type 0) (count job : ℕ) (fault : BookFault) : Type 0 where
  pub op : BookOp
  pub has : Makes job op
  pub refusal : refusal_of origin count op ≡ Some fault

-- Some job has the receipt of the record at this place.
pub record HasJob (outcomes : List BookOutcome) (place : ℕ) : Type 0 where
  pub job : ℕ
  pub receipt : BookReceipt
  pub is_done : IsDone outcomes job receipt
  pub place_is : receipt.place ≡ place

-- Each of the `count` jobs has one outcome, and `by` has its worker. `Makes` says which operations a job may become.
pub record IsBatchOf (origin : Origin) (count : ℕ) (Makes : ℕ → BookOp → Type 0) (workers : ℕ) (book : BookState)
    (outcomes : List BookOutcome) (by : List ℕ) : Type 0 where
  -- The book has the given origin.
  pub origin_is : book.origin ≡ origin
  -- There is one outcome and one worker for each job.
  pub outcomes_of_all : length outcomes ≡ count
  pub workers_of_all : length by ≡ count
  pub worker_below : (job worker : ℕ) → slice_get by job ≡ Some worker → worker < workers
  -- Each receipt is of an operation of its job, and names its record.
  pub receipts : (job : ℕ) (receipt : BookReceipt) → IsDone outcomes job receipt → IsReceiptOfJob Makes job receipt
  pub names : (job : ℕ) (receipt : BookReceipt) → IsDone outcomes job receipt → NamesRecord book.records receipt
  -- Receipts and records from place 1 on correspond one to one: no two jobs have one record, and each record is a job's.
  pub apart : (job other : ℕ) (receipt another : BookReceipt) → IsDone outcomes job receipt → IsDone outcomes other another
      → receipt.place ≡ another.place → job ≡ other
  pub named : (place : ℕ) → 0 < place → place < length book.records → HasJob outcomes place
  -- The places of one worker's jobs rise with the jobs.
  pub rise : (worker first second : ℕ) (earlier later : BookReceipt) → first < second
      → slice_get by first ≡ Some worker → slice_get by second ≡ Some worker
      → IsDone outcomes first earlier → IsDone outcomes second later → earlier.place < later.place
  -- Each refusal other than `Memory` is the first reason against an operation of the job at the book's end.
  pub refusals : (job : ℕ) (fault : BookFault) → slice_get outcomes job ≡ Some (refused fault) → fault ≢ Memory
      → IsRefusalOfJob origin Makes (length book.records) job fault

-- What became of jobs that become these operations.
abbrev pub IsBatch : Origin → List BookOp → ℕ → BookState → List BookOutcome → List ℕ → Type 0
IsBatch origin ops workers book outcomes by = IsBatchOf origin (length ops) (IsAt ops) workers book outcomes by
