-- What the uses of the libraries answer, in the definitions of those libraries.
use Rattle.std.specs.Prelude.{◌≡◌, ℕ, Bool, List, [], ◌∷◌, Option, option_map}
use Rattle.pcr_banks.specs.declared.alg.Alg.{Alg}
use Rattle.pcr_banks.specs.declared.alg.Alg.TheVariants.{Sha256}
use Rattle.pcr_banks.specs.declared.banks.Banks.{Banks}
use Rattle.pcr_banks.specs.declared.digest.Digest.{Digest}
use Rattle.pcr_banks.specs.Names.{digest_of, hash_of}
use Rattle.pcr_values.specs.declared.expected.Expected.{Expected}
use Rattle.pcr_values.specs.Names.{IsExpectedText}
use Rattle.boot_log.specs.declared.header.DeclaredAlgorithm.{DeclaredAlgorithm}
use Rattle.boot_log.specs.Names.{IsFirmware, IsLog, LogEvent, algs_in}
use Rattle.ima_list.specs.declared.template.Template.TheVariants.{ImaNg}
use Rattle.measure_book.specs.declared.origin.Origin.{Origin}
use Rattle.measure_book.specs.Names.{AccountsForAll, BookOp, BookOutcome, BookRecord, BookState, IsBook, IsOpening, RunsTo, measure}
use Rattle.hash_workers.specs.Names.{IsBatch}
use Rattle.boot_verdict.specs.Names.{IsVerdict, Verdict, matches, pcr_after_log}

-- The bytes are a log, and this is what its events make of a register: none where the log has no such bank, or there is no such register.
pub record IsRegisterAfter (log : List ℕ) (alg : Alg) (register : ℕ) (value : Option Digest) : Type 0 where
  pub table : List DeclaredAlgorithm
  pub events : List LogEvent
  pub log_is : IsLog log table events
  pub value_is : value ≡ option_map (digest_of alg) (pcr_after_log (algs_in table) events alg register)

-- The text states expected registers; the bytes are a log and a list of genuine entries; and this tells whether the verdict on them is
-- 'match'.
pub record TellsWhetherMatch (log list text : List ℕ) (answer : Bool) : Type 0 where
  pub expected : List Expected
  pub verdict : Verdict
  pub expected_is : IsExpectedText text expected
  pub verdict_is : IsVerdict log list expected verdict
  pub answer_is : answer ≡ matches verdict

-- ---- books

-- The origin of a book of 'ima-ng' with SHA-256, of at most 1,000 records, that starts with these registers.
abbrev pub origin_from : Banks → Origin
origin_from start = record { start = start; template = ImaNg; alg = Sha256; limit = 1000 }

-- The bytes are a log, and the origin starts with the registers that its events make.
pub record IsOriginAfter (log : List ℕ) (origin : Origin) : Type 0 where
  pub table : List DeclaredAlgorithm
  pub events : List LogEvent
  pub start : Banks
  pub log_is : IsLog log table events
  pub start_is : IsFirmware (algs_in table) events start
  pub origin_is : origin ≡ origin_from start

-- The measurement of a file of this path and content, by SHA-256 and without a signature.
abbrev pub measurement_op : List ℕ → List ℕ → BookOp
measurement_op path content = measure (record { alg = Sha256; digest = hash_of Sha256 content; path = path; sig = [] })

-- A book that was opened on the registers of the log, and in which the operations of one caller were done and then those of another.
-- Each operation has its outcome, and the outcomes of both account for all records of the book.
pub record IsShared (log : List ℕ) (first second : List BookOp) (book : BookState) (groups : List (List BookOutcome)) : Type 0 where
  pub origin_is : IsOriginAfter log book.origin
  pub book_is : IsBook book
  pub opening : BookRecord
  pub between : List BookRecord
  pub firsts : List BookOutcome
  pub seconds : List BookOutcome
  pub opens : IsOpening book.origin opening
  pub groups_are : groups ≡ firsts ∷ seconds ∷ []
  pub first_runs : RunsTo book.origin (opening ∷ []) first firsts between
  pub second_runs : RunsTo book.origin between second seconds book.records
  pub accounts : AccountsForAll book book.origin groups

-- A book that was opened on the registers of the log, in which four workers recorded these operations: each has one outcome.
pub record IsSharedByWorkers (log : List ℕ) (ops : List BookOp) (book : BookState) (outcomes : List BookOutcome) (by : List ℕ)
    : Type 0 where
  pub origin_is : IsOriginAfter log book.origin
  pub batch : IsBatch book.origin ops 4 book outcomes by
