-- Files, measured into the registers of a log.
use Rattle.std.specs.Prelude.{◌≡◌, ℕ, ◌<◌, ◌≤◌, ◌^◌, ◌⊎◌, ◌==◌, not, List, [], ◌++◌, filter, length, map, slice_get, Option, None, Some, IfSome, IsTrue, MatchOption, string_bytes}
use Rattle.std.specs.List.{slice_split}
use Rattle.std.specs.Str.{IsUtf8}
use Rattle.pcr_banks.specs.declared.alg.Alg.{Alg}
use Rattle.pcr_banks.specs.Names.{IsReset, hash_of}
use Rattle.boot_log.specs.declared.header.DeclaredAlgorithm.{DeclaredAlgorithm}
use Rattle.boot_log.specs.Names.{IsFirmware, IsLog, LogEvent, algs_in, startup_locality}
use Rattle.measure_book.specs.declared.origin.Origin.{Origin}
use Rattle.measure_book.specs.declared.fault.BookFault.{BookFault}
use Rattle.measure_book.specs.declared.gathers.GatherFault.{GatherFault}
use Rattle.measure_book.specs.Names.{BookOp, BookOutcome, BookState, IsBook, measure, refused}
use Rattle.hash_workers.specs.declared.fault.AgentFault.{AgentFault}
use Rattle.hash_workers.specs.declared.fault.AgentFault.TheVariants as agents
use Rattle.hash_workers.specs.Names.{IsAgentFaultOf, IsBatchOf, IsReasonOf}
use Rattle.agent_plans.specs.declared.plan.Measurement.{Measurement}
use Rattle.agent_plans.specs.declared.plan.NameEnd.{NameEnd}
use Rattle.agent_plans.specs.declared.plan.NameEnd.TheVariants.{LineFeed, Nul}
use Rattle.agent_inputs.specs.declared.fault.RunFault.{RunFault}
use Rattle.agent_inputs.specs.declared.fault.RunFault.TheVariants as runs
use Rattle.agent_inputs.specs.Faults.{HasLogFault, fault_of_job}
use Rattle.agent_inputs.specs.Opening.{OfReplayed}
use Rattle.agent_inputs.specs.Loading.{Inputs, IsInputFault, IsNotRead, IsNotUtf8, IsTooLong, OfInput, input_limit}
use Rattle.measuring.specs.declared.file_book.Measured.{Measured}

-- ---- the names in a text

-- The byte that ends each name; the last name may lack it.
abbrev pub byte_of : NameEnd → ℕ
byte_of LineFeed = 10
byte_of Nul = 0

-- The names in a text, in order: its parts between the bytes that end names, except empty ones.
abbrev pub names_of : NameEnd → List ℕ → List (List ℕ)
names_of ends text = filter (λ name. not (length name == 0)) (slice_split (λ byte. byte == byte_of ends) text)

-- ---- what is measured

-- What files hold: all bytes of the file of a name; none if they are not known.
abbrev pub Contents : Type 0
Contents = List ℕ → Option (List ℕ)

-- What the files among these inputs hold.
abbrev pub files_in : Inputs → Contents
files_in inputs = λ name. inputs.held (Some name)

-- Which files among these inputs may fail.
abbrev pub failing_in : Inputs → List ℕ → Type 0
failing_in inputs = λ name. IsTrue (inputs.may_fail (Some name))

-- The name of the file of this number, and all bytes that it holds, at most as many as an input may have.
pub record HasFile (held : Contents) (names : List (List ℕ)) (number : ℕ) : Type 0 where
  pub name : List ℕ
  pub content : List ℕ
  pub has : slice_get names number ≡ Some name
  pub held_is : IfSome (held name) (λ all. content ≡ all)
  pub within : length content ≤ input_limit

-- Each of the first `count` of these files could be read.
abbrev pub HasFiles : Contents → List (List ℕ) → ℕ → Type 0
HasFiles held names count = (number : ℕ) → number < count → HasFile held names number

-- The operation is the measurement of this file: its name, the hash of what it holds by this algorithm, and no signature.
pub record IsFileMeasure (held : Contents) (names : List (List ℕ)) (alg : Alg) (number : ℕ) (op : BookOp) : Type 0 where
  pub file : HasFile held names number
  pub op_is : op ≡ measure (record { alg = alg; digest = hash_of alg file.content; path = file.name; sig = [] })

-- None of the jobs before this one was refused.
abbrev pub AreDone : List BookOutcome → ℕ → Type 0
AreDone outcomes count = (job : ℕ) (fault : BookFault) → job < count → slice_get outcomes job ≡ Some (refused fault) → ⊥

-- The fault is that of the first refused job.
pub record IsFirstRefusal (outcomes : List BookOutcome) (fault : RunFault) : Type 0 where
  pub job : ℕ
  pub reason : BookFault
  pub is_refused : slice_get outcomes job ≡ Some (refused reason)
  pub before : AreDone outcomes job
  pub says : fault ≡ fault_of_job job reason

-- The workers recorded the files of these names in this book, whose records are a legal history, each as its measurement. The fault is that of
-- the first file that the book refused; there is none if it refused none.
pub record HasRecorded (held : Contents) (names : List (List ℕ)) (origin : Origin) (workers : ℕ) (refusal : Option RunFault)
    (book : BookState) : Type 0 where
  pub outcomes : List BookOutcome
  pub by : List ℕ
  pub book_is : IsBook book
  pub batch : IsBatchOf origin (length names) (IsFileMeasure held names origin.alg) workers book outcomes by
  pub refusal_is : MatchOption refusal (AreDone outcomes (length outcomes)) (IsFirstRefusal outcomes)

-- The bytes are a log.
abbrev pub AreLog : List ℕ → Type 0
AreLog bytes = (table : List DeclaredAlgorithm) × (events : List LogEvent) × IsLog bytes table events

-- Files are to be measured as asked, into a book of this origin: it starts with the registers after the events of this log.
pub record IsSetOut (log : List ℕ) (request : Measurement) (origin : Origin) : Type 0 where
  pub table : List DeclaredAlgorithm
  pub events : List LogEvent
  pub log_is : IsLog log table events
  pub starts : IsFirmware (algs_in table) events origin.start
  pub origin_is : origin ≡ record { start = origin.start; template = request.template; alg = request.alg; limit = request.limit }

-- A text of further names: UTF-8, and no more bytes than an input may have.
abbrev pub IsTextOfNames : List ℕ → Type 0
IsTextOfNames text = IsUtf8 text × (length text ≤ input_limit)

-- These are the names of the files to be measured, fewer than 2^32: those in the arguments, and then, if there is a text of further names, those
-- in it.
abbrev pub AreNames : Inputs → Measurement → List (List ℕ) → Type 0
AreNames inputs request names =
    (length names < 2 ^ 32)
    × MatchOption request.names (names ≡ map string_bytes request.files.items) (λ more. OfInput inputs (Some (string_bytes more.text)) (λ text.
    IsTextOfNames text × (names ≡ map string_bytes request.files.items ++ names_of more.ends text)))

-- This is what a measurement of the files of these names over this log gives: a book that starts with the registers after the log, and in
-- which the files are measured, each under its name with all that it holds; its list is what the records add, and its registers are the
-- list's replay. Beside it, the registers at their reset values.
pub record IsMeasuredOver (held : Contents) (log : List ℕ) (request : Measurement) (names : List (List ℕ)) (given : Measured) : Type 0 where
  pub origin : Origin
  pub set_out : IsSetOut log request origin
  pub reset_is : IsReset (algs_in set_out.table) (startup_locality set_out.events) given.reset
  pub measured : HasRecorded held names origin request.workers None given.book

-- This is what a measurement of these inputs gives: that of the files of all names over the log.
abbrev pub IsMeasured : Inputs → Measurement → Measured → Type 0
IsMeasured inputs request given = OfReplayed inputs (Some (string_bytes request.log.name)) request.log.hcrtm (λ log.
    (names : List (List ℕ)) × AreNames inputs request names × IsMeasuredOver (files_in inputs) log request names given)

-- ---- why nothing is measured

-- Why the file of this name has no hash: it is too long, it failed, as such a file may, or memory ran out.
abbrev pub IsUnhashed : Contents → (List ℕ → Type 0) → List ℕ → RunFault → Type 0
IsUnhashed held Fails name fault =
    (IsTooLong name fault × IfSome (held name) (λ all. input_limit < length all)) ⊎ (IsNotRead name fault × Fails name)
    ⊎ (fault ≡ runs.Memory)

-- The file of one of these names could not be read, and each before it was read.
pub record IsFileFault (held : Contents) (Fails : List ℕ → Type 0) (names : List (List ℕ)) (fault : RunFault) : Type 0 where
  pub index : ℕ
  pub name : List ℕ
  pub has : slice_get names index ≡ Some name
  pub reason : IsUnhashed held Fails name fault
  pub before : HasFiles held names index

-- If the fault is that no book could be opened, each of these files could be read: it comes after the faults of files.
abbrev pub IsAfterFiles : Contents → List (List ℕ) → RunFault → Type 0
IsAfterFiles held names fault = (reason : BookFault) → fault ≡ runs.Book reason → HasFiles held names (length names)

-- The program's fault for a fault of the workers. A wrong number of workers is a fault of the command line.
abbrev pub fault_of_workers : AgentFault → RunFault
fault_of_workers agents.Workers = runs.Usage
fault_of_workers (agents.Book fault) = runs.Book fault
fault_of_workers (agents.Gather fault) = runs.Gather fault
fault_of_workers agents.Memory = runs.Memory

-- Why the workers returned no batch. If their outcomes do not account for the book, this is the first reason against them.
pub record IsNoBatch (held : Contents) (names : List (List ℕ)) (origin : Origin) (workers : ℕ) (fault : RunFault) : Type 0 where
  pub first : AgentFault
  pub first_is : IsAgentFaultOf workers origin first
  pub among : (reason : GatherFault) → first ≡ agents.Gather reason
      → IsReasonOf workers origin (length names) (IsFileMeasure held names origin.alg) reason
  pub says : fault ≡ fault_of_workers first
  pub after_files : IsAfterFiles held names fault

-- Why the files of these names are not all recorded: there is no batch, or a book refused some, and this is the fault of the first of these.
abbrev pub IsRecordingFault : Contents → List (List ℕ) → Origin → ℕ → RunFault → Type 0
IsRecordingFault held names origin workers fault =
    IsNoBatch held names origin workers fault ⊎ ((book : BookState) × HasRecorded held names origin workers (Some fault) book)

-- The files of these names were to be measured as asked over this log, and were not all recorded.
abbrev pub IsNotRecorded : Contents → List ℕ → Measurement → List (List ℕ) → RunFault → Type 0
IsNotRecorded held log request names fault = (origin : Origin) × IsSetOut log request origin × IsRecordingFault held names origin request.workers fault

-- Why there are no names: there is a text of further names, and it was not loaded, is not UTF-8, or names, with the names before, 2^32 files
-- or more.
abbrev pub IsNamesFault : Inputs → Measurement → RunFault → Type 0
IsNamesFault inputs request fault = MatchOption request.names ⊥ (λ more.
    IsInputFault inputs (Some (string_bytes more.text)) fault ⊎ OfInput inputs (Some (string_bytes more.text)) (λ text.
    (IsNotUtf8 (string_bytes more.text) fault × (IsUtf8 text → ⊥))
    ⊎ ((fault ≡ runs.Usage) × (2 ^ 32 ≤ length (map string_bytes request.files.items ++ names_of more.ends text)))))

-- Why nothing is measured of these inputs: the log was not loaded, or is no log; it is one, and there are no names, or the files are not
-- measured; or memory ran out.
abbrev pub IsMeasuringFault : Inputs → Measurement → RunFault → Type 0
IsMeasuringFault inputs request fault =
    IsInputFault inputs (Some (string_bytes request.log.name)) fault
    ⊎ OfReplayed inputs (Some (string_bytes request.log.name)) request.log.hcrtm (λ log.
    HasLogFault log fault ⊎ (AreLog log × (IsNamesFault inputs request fault ⊎ ((names : List (List ℕ)) × AreNames inputs request names
    × (IsFileFault (files_in inputs) (failing_in inputs) names fault ⊎ IsNotRecorded (files_in inputs) log request names fault))))
    ⊎ (fault ≡ runs.Memory))
