-- The verdict on a firmware log, a measurement list and expected registers. How events and
-- entries change the registers is defined in boot_log and ima_list.
use Rattle.std.specs.Prelude.{◌≡◌, ℕ, ◌&&◌, nat_lt, Bool, true, false, if◌then◌else◌, List, [], ◌∷◌, length, map, bytes_eq, Option, Some, None, option_map, Ok, Err}
use Rattle.std.specs.List.{list_all}
use Rattle.std.specs.Option.{option_map_or, option_or}
use Rattle.pcr_banks.specs.declared.alg.Alg.{Alg}
use Rattle.pcr_banks.specs.declared.sets.AlgSet.{AlgSet}
use Rattle.pcr_banks.specs.Names.{alg_of, bytes_of, digest_of, extended_by_all, has_alg, hash_of, register_count, same_alg}
use Rattle.byte_streams.specs.declared.piece_reader.ReadFault.{ReadFault}
use Rattle.byte_streams.specs.declared.piece_reader.ReadFault.TheVariants as reads
use Rattle.pcr_values.specs.declared.expected.Expected.{Expected}
use Rattle.boot_log.specs.declared.fault.LogFault.{LogFault}
use Rattle.boot_log.specs.declared.fault.LogFault.TheVariants as logs
use Rattle.boot_log.specs.declared.header.DeclaredAlgorithm.{DeclaredAlgorithm}
use Rattle.boot_log.specs.Names.{IsLog, LogEvent, algs_in, firmware_value, log_fault, startup_locality}
use Rattle.ima_list.specs.declared.fault.ListFault.{ListFault}
use Rattle.ima_list.specs.declared.fault.ListFault.TheVariants as lists
use Rattle.ima_list.specs.declared.list_replay.ReplayFault.{ReplayFault}
use Rattle.ima_list.specs.Names.{AreGenuine, FileFields, FileTold, IsReading, IsReplayFault, ListEntry, aggregate_register_count, boot_aggregate_path, digests_of, fields_of, is_violation, joined_values, kernel_file_of, old_aggregate}
use Rattle.boot_verdict.specs.declared.aggregate_rule.AggregateRule.{AggregateRule}
use Rattle.boot_verdict.specs.declared.isolation.Strays.{Strays}
use Rattle.boot_verdict.specs.declared.report.Row.{Row}
use Rattle.boot_verdict.specs.declared.report.State.{State}
use Rattle.boot_verdict.specs.declared.report.State.TheVariants.{Match, Differ, Absent}
use Rattle.boot_verdict.specs.declared.report.Aggregate.{Aggregate}
use Rattle.boot_verdict.specs.declared.report.Aggregate.TheVariants.{Good, Wrong, NoBank, Missing, Old}
use Rattle.boot_verdict.specs.declared.report.Report.{Report}
use Rattle.boot_verdict.specs.declared.verifier.VerifyFault.{VerifyFault}
use Rattle.boot_verdict.specs.declared.verifier.VerifyFault.TheVariants as faults
use Rattle.boot_verdict.specs.Isolation.{strays_of}
use Rattle.boot_verdict.specs.ListSources.{CameWhole, IsListFault}

-- ---- registers

-- The value of a register of a bank after the log's events; none if the log has no such bank or there is no such register.
abbrev pub pcr_after_log : AlgSet → List LogEvent → Alg → ℕ → Option (List ℕ)
pcr_after_log algs events alg register =
    if has_alg algs alg && nat_lt register register_count then Some (firmware_value events alg register) else None

-- The value after the log's events and then the list's entries.
abbrev pub pcr_after_log_and_list : AlgSet → List LogEvent → List ListEntry → Alg → ℕ → Option (List ℕ)
pcr_after_log_and_list algs events entries alg register =
    option_map (λ value. extended_by_all alg value (digests_of entries alg register)) (pcr_after_log algs events alg register)

-- Whether this value of the register is the expected one; a digest of another algorithm never is.
abbrev pub is_value : Expected → List ℕ → Bool
is_value expected value = same_alg (alg_of expected.value) expected.alg && bytes_eq (bytes_of expected.value) value

-- The state of an expected register with this value, or of an absent one.
abbrev pub row_state : Expected → Option (List ℕ) → State
row_state expected None = Absent
row_state expected (Some value) = if is_value expected value then Match else Differ (digest_of expected.alg value)

-- The row of an expected register.
abbrev pub row_on : AlgSet → List LogEvent → List ListEntry → Expected → Row
row_on algs events entries expected =
    record { expected = expected; state = row_state expected (pcr_after_log_and_list algs events entries expected.alg expected.register) }

-- ---- boot aggregate

-- The file digest of these fields, if their path is `boot_aggregate`.
abbrev pub aggregate_in : Option FileFields → Option (Alg × List ℕ)
aggregate_in None = None
aggregate_in (Some fields) = if bytes_eq fields.path boot_aggregate_path then Some (fields.alg, fields.digest) else None

-- The boot aggregate that this entry records as the first of a list; a violation records none.
abbrev pub recorded_in : ListEntry → Option (Alg × List ℕ)
recorded_in first = if is_violation first then None else aggregate_in (fields_of first)

abbrev pub recorded_aggregate : List ListEntry → Option (Alg × List ℕ)
recorded_aggregate [] = None
recorded_aggregate (first ∷ entries) = recorded_in first

-- The file digest that is told, if the path is `boot_aggregate`.
abbrev pub aggregate_told : Option FileTold → Option (Alg × List ℕ)
aggregate_told None = None
aggregate_told (Some file) =
    if bytes_eq file.path boot_aggregate_path then Some (alg_of file.digest, bytes_of file.digest) else None

-- The boot aggregate that this entry, of another of the kernel's templates, records as the first of a list; a violation records none.
abbrev pub told_in : ListEntry → Option (Alg × List ℕ)
told_in first = if is_violation first then None else aggregate_told (kernel_file_of first)

-- What this entry records as the first of a list by its template, whichever of the kernel's that is.
abbrev pub recorded_by_any : ListEntry → Option (Alg × List ℕ)
recorded_by_any first = option_or (recorded_in first) (told_in first)

abbrev pub told_aggregate : List ListEntry → Option (Alg × List ℕ)
told_aggregate [] = None
told_aggregate (first ∷ entries) = told_in first

-- The boot aggregate of the log's registers: the hash of the bank's first ones, joined.
abbrev pub booted_aggregate : AlgSet → List LogEvent → Alg → Option (List ℕ)
booted_aggregate algs events alg = option_map (hash_of alg) (joined_values (pcr_after_log algs events alg) (aggregate_register_count alg))

abbrev pub aggregate_state : List ℕ → Option (List ℕ) → Aggregate
aggregate_state recorded None = NoBank
aggregate_state recorded (Some value) = if bytes_eq recorded value then Good else Wrong

abbrev pub aggregate_of : AlgSet → List LogEvent → Option (Alg × List ℕ) → Aggregate
aggregate_of algs events None = Missing
aggregate_of algs events (Some recorded) = aggregate_state recorded.1 (booted_aggregate algs events recorded.0)

-- ---- rules for the boot aggregate. That a caller may choose one is this project's choice.

-- The first entry is of `ima`, `ima-ng` or `ima-sig`, and records the boot aggregate as kernels make it since 5.8.
abbrev pub plain_rule : AggregateRule
plain_rule = record { wide = false; old_kernel = false }

-- The first entry is of any template whose file is told; and an older kernel's aggregate is taken, or not.
abbrev pub wide_rule : Bool → AggregateRule
wide_rule old_kernel = record { wide = true; old_kernel = old_kernel }

-- What is taken of what an entry of these templates records, and of what one of another template does: that only by a wide rule.
abbrev pub taken_by : {A : Type 0} → AggregateRule → Option A → Option A → Option A
taken_by rule recorded told = if rule.wide then option_or recorded told else recorded

-- What is recorded, if something is, is the aggregate of a kernel before 5.8 for these values in its bank.
abbrev pub is_old : (Alg → ℕ → Option (List ℕ)) → Option (Alg × List ℕ) → Bool
is_old values None = false
is_old values (Some recorded) = option_map_or (bytes_eq recorded.1) (old_aggregate values recorded.0) false

-- The state where an older kernel's aggregate is taken or not, and is recorded or not.
abbrev pub or_old : Bool → Bool → Aggregate → Aggregate
or_old true true Wrong = Old
or_old takes_old is_old state = state

-- The state by a rule of what is taken.
abbrev pub state_under : AggregateRule → AlgSet → List LogEvent → Option (Alg × List ℕ) → Aggregate
state_under rule algs events taken = or_old rule.old_kernel (is_old (pcr_after_log algs events) taken) (aggregate_of algs events taken)

-- The state by a rule of what the first entry records, or is told by another template.
abbrev pub aggregate_with : AggregateRule → AlgSet → List LogEvent → Option (Alg × List ℕ) → Option (Alg × List ℕ) → Aggregate
aggregate_with rule algs events recorded told = state_under rule algs events (taken_by rule recorded told)

-- The state by a rule of the boot aggregate of a list.
abbrev pub aggregate_under : AggregateRule → AlgSet → List LogEvent → List ListEntry → Aggregate
aggregate_under rule algs events entries = aggregate_with rule algs events (recorded_aggregate entries) (told_aggregate entries)

-- ---- the verdict

pub record Verdict : Type 0 where
  pub events : ℕ
  pub locality : ℕ
  pub entries : ℕ
  pub aggregate : Aggregate
  pub strays : Strays
  pub rows : List Row

-- The verdict by a rule on the events of a log with these algorithms, the entries of a list, and expected registers.
abbrev pub verdict_under : AggregateRule → AlgSet → List LogEvent → List ListEntry → List Expected → Verdict
verdict_under rule algs events entries expected = record {
  events = length events;
  locality = startup_locality events;
  entries = length entries;
  aggregate = aggregate_under rule algs events entries;
  strays = strays_of events entries;
  rows = map (row_on algs events entries) expected;
}

-- The verdict by the plain rule: there the boot aggregate is `aggregate_of algs events (recorded_aggregate entries)`.
abbrev pub verdict_on : AlgSet → List LogEvent → List ListEntry → List Expected → Verdict
verdict_on algs events entries expected = verdict_under plain_rule algs events entries expected

abbrev pub is_good : Aggregate → Bool
is_good Good = true
is_good Wrong = false
is_good NoBank = false
is_good Missing = false
is_good Old = true

abbrev pub state_matches : State → Bool
state_matches Match = true
state_matches (Differ value) = false
state_matches Absent = false

abbrev pub is_match : Row → Bool
is_match row = state_matches row.state

-- The verdict is 'match': the boot aggregate is good, and each expected register has its value.
abbrev pub matches : Verdict → Bool
matches verdict = is_good verdict.aggregate && list_all is_match verdict.rows

-- The bytes are a log and a list, each entry is genuine, and this is the verdict on them by the rule.
pub record IsVerdictUnder (rule : AggregateRule) (log list : List ℕ) (expected : List Expected) (verdict : Verdict) : Type 0 where
  pub table : List DeclaredAlgorithm
  pub events : List LogEvent
  pub entries : List ListEntry
  pub log_is : IsLog log table events
  pub list_is : IsReading list (Ok entries)
  pub genuine : AreGenuine entries
  pub verdict_is : verdict ≡ verdict_under rule (algs_in table) events entries expected

-- By the plain rule.
abbrev pub IsVerdict : List ℕ → List ℕ → List Expected → Verdict → Type 0
IsVerdict log list expected verdict = IsVerdictUnder plain_rule log list expected verdict

-- ---- why there is no verdict

-- The bytes are a firmware event log.
pub record ReadsAsLog (log : List ℕ) : Type 0 where
  pub table : List DeclaredAlgorithm
  pub events : List LogEvent
  pub log_is : IsLog log table events

-- The bytes are a list, and this is the fault of its first entry that is not genuine.
pub record IsForged (list : List ℕ) (fault : ReplayFault) : Type 0 where
  pub entries : List ListEntry
  pub list_is : IsReading list (Ok entries)
  pub first : IsReplayFault entries fault

-- The bytes are a list, and each of its entries is genuine.
pub record IsGenuineList (list : List ℕ) : Type 0 where
  pub entries : List ListEntry
  pub list_is : IsReading list (Ok entries)
  pub genuine : AreGenuine entries

-- Something must be kept in memory: rows, after a log and a list of genuine entries.
abbrev pub HasSomethingToKeep : List ℕ → List ℕ → Type 0
HasSomethingToKeep log list = ReadsAsLog log × IsGenuineList list

-- Why there is no verdict: the first of these that holds, the log before the list, and the list before its entries; or memory ran
-- out.
abbrev pub IsVerifyFault : List ℕ → List ℕ → VerifyFault → Type 0
IsVerifyFault log list (faults.Log fault) = log_fault log ≡ Some fault
IsVerifyFault log list (faults.List fault) = ReadsAsLog log × IsReading list (Err fault)
IsVerifyFault log list (faults.Replay fault) = ReadsAsLog log × IsForged list fault
IsVerifyFault log list faults.Source = ⊥
IsVerifyFault log list faults.TooLong = ⊥
IsVerifyFault log list faults.Memory = Unit {0}

-- Out of memory is one fault, wherever it happens.
abbrev pub fault_of_log : LogFault → VerifyFault
fault_of_log logs.Memory = faults.Memory
fault_of_log fault = faults.Log fault

abbrev pub fault_of_list : ListFault → VerifyFault
fault_of_list lists.Memory = faults.Memory
fault_of_list fault = faults.List fault

-- The fault of reading a piece of the list.
abbrev pub fault_of_reading : ReadFault → VerifyFault
fault_of_reading reads.Source = faults.Source
fault_of_reading reads.Memory = faults.Memory

-- ---- a list that comes from a source

-- All bytes that the source had left, at most `limit`, are a list, and this is the verdict by the rule on the log and the list.
pub record IsVerdictUnderFrom (rule : AggregateRule) (log : List ℕ) (old new : Option (List ℕ)) (limit : ℕ) (expected : List Expected) (verdict : Verdict) : Type 0 where
  pub list : List ℕ
  pub came : CameWhole old new limit list
  pub verdict_is : IsVerdictUnder rule log list expected verdict

-- By the plain rule.
abbrev pub IsVerdictFrom : List ℕ → Option (List ℕ) → Option (List ℕ) → ℕ → List Expected → Verdict → Type 0
IsVerdictFrom log old new limit expected verdict = IsVerdictUnderFrom plain_rule log old new limit expected verdict

-- Why there is no verdict on a log and the list that a source has left: the first of these that holds. A fault of the log leaves
-- the source as it was, and `Replay` comes only after all of the list.
abbrev pub IsVerifyFaultFrom : List ℕ → Option (List ℕ) → Option (List ℕ) → ℕ → VerifyFault → Type 0
IsVerifyFaultFrom log old new limit (faults.Log fault) = (log_fault log ≡ Some fault) × (new ≡ old)
IsVerifyFaultFrom log old new limit (faults.Replay fault) =
    ReadsAsLog log × ((list : List ℕ) × CameWhole old new limit list × IsForged list fault)
IsVerifyFaultFrom log old new limit faults.Memory = Unit {0}
IsVerifyFaultFrom log old new limit fault = ReadsAsLog log × IsListFault old new limit fault

-- ---- what contracts see of a report

abbrev pub verdict_of : Report → Verdict
verdict_of report = record {
  events = report.events;
  locality = report.locality;
  entries = report.entries;
  aggregate = report.aggregate;
  strays = report.strays;
  rows = report.rows.items;
}
