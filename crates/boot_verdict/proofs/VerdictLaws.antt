-- The verdict: registers of the log and of the list, and which fault comes first.
use Rattle.std.proofs.Common.{◌≡◌, ◌⊎◌, ℕ, Bool, true, false, cond, List, [], ◌∷◌, map, Option, None, Some, option_map, Result, Ok, Err, refl, sym, ap, subst, ◌∙◌, ◌||◌, inl, inr}
use Rattle.std.specs.Option.{option_or}
use Rattle.pcr_banks.specs.declared.alg.Alg.{Alg}
use Rattle.pcr_banks.specs.declared.banks.Banks.{Banks}
use Rattle.pcr_banks.specs.declared.digest.Digest.{Digest}
use Rattle.pcr_banks.specs.declared.sets.AlgSet.{AlgSet}
use Rattle.pcr_banks.specs.Names.{alg_of, bytes_of, digest_of, extended_by_all, has_alg, hash_of, value_at}
use Rattle.pcr_banks.proofs.SetLaws.{same_bytes}
use Rattle.pcr_values.specs.declared.expected.Expected.{Expected}
use Rattle.boot_log.specs.declared.fault.LogFault.{LogFault}
use Rattle.boot_log.specs.declared.fault.LogFault.TheVariants as logs
use Rattle.boot_log.specs.declared.header.DeclaredAlgorithm.{DeclaredAlgorithm}
use Rattle.boot_log.specs.Names.{HasLogFault, IsFirmware, IsLog, LogEvent, algs_in, log_fault}
use Rattle.ima_list.specs.Names.{IsReplayed, ListEntry, aggregate_register_count, boot_aggregate_of, digests_of, joined_values}
use Rattle.boot_verdict.specs.declared.aggregate_rule.AggregateRule.{AggregateRule}
use Rattle.boot_verdict.specs.declared.checkpoint.Checkpoint.{Checkpoint}
use Rattle.boot_verdict.specs.declared.report.Row.{Row}
use Rattle.boot_verdict.specs.declared.verifier.VerifyFault.{VerifyFault}
use Rattle.boot_verdict.specs.declared.verifier.VerifyFault.TheVariants as faults
use Rattle.boot_verdict.specs.Names.{HaveSame, IsCheckpoint, IsMoreFault, IsVerdictUnder, IsVerifyFault, IsVerifyFaultFrom, ReadsAsLog, Verdict, aggregate_of, aggregate_state, booted_aggregate, fault_of_log, is_asked, pcr_after_log, pcr_after_log_and_list, row_of, row_on, row_state, taken_by, verdict_under}
use Rattle.boot_verdict.proofs.StepLaws.{fun_same}

-- ---- registers

-- The boot aggregate of the log's registers.
pub booted_same : (algs : AlgSet) (events : List LogEvent) (banks : Banks) (alg : Alg) → IsFirmware algs events banks
    → boot_aggregate_of banks alg ≡ booted_aggregate algs events alg
booted_same algs events banks alg firmware =
    ap (λ (f : ℕ → Option (List ℕ)). option_map (hash_of alg) (joined_values f (aggregate_register_count alg)))
    (fun_same (value_at banks alg) (pcr_after_log algs events alg) (λ r. firmware.values alg r))

pub aggregate_same : (algs : AlgSet) (events : List LogEvent) (start : Banks) (recorded : Digest) (value : Option Digest) (alg : Alg)
    → IsFirmware algs events start → alg ≡ alg_of recorded → value ≡ option_map (digest_of alg) (boot_aggregate_of start alg)
    → aggregate_state (bytes_of recorded) (option_map bytes_of value) ≡ aggregate_of algs events (Some (alg_of recorded, bytes_of recorded))
aggregate_same algs events start recorded value alg firmware by is =
    ap (λ (o : Option Digest). aggregate_state (bytes_of recorded) (option_map bytes_of o)) is
    ∙ ap (aggregate_state (bytes_of recorded)) (same_bytes alg (boot_aggregate_of start alg) ∙ booted_same algs events start alg firmware)
    ∙ ap (λ (a : Alg). aggregate_state (bytes_of recorded) (booted_aggregate algs events a)) by

taken_where : {A B : Type 0} (f : A → B) (wide : Bool) (recorded told : Option A)
    → option_map f (cond wide (option_or recorded told) recorded) ≡ cond wide (option_or (option_map f recorded) (option_map f told)) (option_map f recorded)
taken_where f false recorded told = refl
taken_where f true None told = refl
taken_where f true (Some digest) told = refl

-- What a rule takes of digests is what it takes of their bytes.
pub taken_same : {A B : Type 0} (f : A → B) (rule : AggregateRule) (recorded told : Option A)
    → option_map f (taken_by rule recorded told) ≡ taken_by rule (option_map f recorded) (option_map f told)
taken_same f rule recorded told = taken_where f rule.wide recorded told

-- The values after the log.
pub values_after_log : (algs : AlgSet) (events : List LogEvent) (start : Banks) → IsFirmware algs events start
    → value_at start ≡ pcr_after_log algs events
values_after_log algs events start firmware = λ i alg register. firmware.values alg register i

-- A register after the log and the list, where the list is replayed from banks that have it.
pub final_same : (algs : AlgSet) (events : List LogEvent) (entries : List ListEntry) (start before banks : Banks) (alg : Alg) (register : ℕ)
    → IsFirmware algs events start → value_at before alg register ≡ value_at start alg register → IsReplayed before entries banks
    → value_at banks alg register ≡ pcr_after_log_and_list algs events entries alg register
final_same algs events entries start before banks alg register firmware same replayed =
    replayed.values alg register
    ∙ ap (λ (v : Option (List ℕ)). option_map (λ value. extended_by_all alg value (digests_of entries alg register)) v)
    (same ∙ firmware.values alg register)

-- The banks have the values of those of these algorithms and of the expected registers, and of no other.
abbrev pub HasOf : List Expected → AlgSet → Banks → Banks → Type 0
HasOf expected more first second = (alg : Alg) (register : ℕ)
    → value_at first alg register ≡ cond (has_alg more alg || is_asked expected alg) (value_at second alg register) None

extended_where : (kept : Bool) (f : List ℕ → List ℕ) (value : Option (List ℕ)) → option_map f (cond kept value None) ≡ cond kept (option_map f value) None
extended_where true f value = refl
extended_where false f value = refl

-- So it is with a register that is kept, or is not.
pub final_kept : (algs : AlgSet) (events : List LogEvent) (entries : List ListEntry) (start before banks : Banks) (alg : Alg) (register : ℕ)
    (kept : Bool) → IsFirmware algs events start → value_at before alg register ≡ cond kept (value_at start alg register) None
    → IsReplayed before entries banks → value_at banks alg register ≡ cond kept (pcr_after_log_and_list algs events entries alg register) None
final_kept algs events entries start before banks alg register kept firmware same replayed =
    let extended : List ℕ → List ℕ = λ value. extended_by_all alg value (digests_of entries alg register) in
    replayed.values alg register
    ∙ ap (option_map extended) (same ∙ ap (λ (v : Option (List ℕ)). cond kept v None) (firmware.values alg register))
    ∙ extended_where kept extended (pcr_after_log algs events alg register)

-- The row of an expected register that has this value.
abbrev row_with : Expected → Option (List ℕ) → Row
row_with e value = record { expected = e; state = row_state e value }

pub rows_same : (algs : AlgSet) (events : List LogEvent) (entries : List ListEntry) (start before banks : Banks) (expected : List Expected)
    → IsFirmware algs events start → HaveSame expected before start → IsReplayed before entries banks
    → map (row_of banks) expected ≡ map (row_on algs events entries) expected
rows_same algs events entries start before banks [] firmware same replayed = refl
rows_same algs events entries start before banks (e ∷ expected) firmware (here, same) replayed =
    let first = ap (row_with e) (final_same algs events entries start before banks e.alg e.register firmware here replayed) in
    let others = rows_same algs events entries start before banks expected firmware same replayed in
    λ i. first i ∷ others i

-- ---- results

-- The value of a result, or `other` for a fault.
abbrev got : {A E : Type 0} → A → Result A E → A
got other (Ok value) = value
got other (Err fault) = other

pub ok_same : {A E : Type 0} (a b : A) → ◌≡◌ {A = Result A E} (Ok a) (Ok b) → a ≡ b
ok_same a b e = ap (got a) e

-- ---- faults

pub log_first : (log list : List ℕ) (fault : LogFault) → (fault ≡ logs.Memory) ⊎ (log_fault log ≡ Some fault)
    → IsVerifyFault log list (fault_of_log fault)
log_first log list logs.Memory reason = tt
log_first log list (logs.Truncated event) (inr first) = first
log_first log list (logs.Truncated event) (inl e) = absurd cc
log_first log list logs.NotCryptoAgile (inr first) = first
log_first log list logs.NotCryptoAgile (inl e) = absurd cc
log_first log list logs.BadHeader (inr first) = first
log_first log list logs.BadHeader (inl e) = absurd cc
log_first log list logs.DigestSize (inr first) = first
log_first log list logs.DigestSize (inl e) = absurd cc
log_first log list logs.NoBank (inr first) = first
log_first log list logs.NoBank (inl e) = absurd cc
log_first log list (logs.UnknownAlg event) (inr first) = first
log_first log list (logs.UnknownAlg event) (inl e) = absurd cc
log_first log list (logs.DoubleDigest event) (inr first) = first
log_first log list (logs.DoubleDigest event) (inl e) = absurd cc
log_first log list (logs.MissingDigest event) (inr first) = first
log_first log list (logs.MissingDigest event) (inl e) = absurd cc
log_first log list (logs.BadRegister event) (inr first) = first
log_first log list (logs.BadRegister event) (inl e) = absurd cc

pub log_first_from : (log : List ℕ) (source : Option (List ℕ)) (limit : ℕ) (fault : LogFault) → log_fault log ≡ Some fault
    → IsVerifyFaultFrom log source source limit (fault_of_log fault)
log_first_from log source limit logs.Memory first = tt
log_first_from log source limit (logs.Truncated event) first = (first, refl)
log_first_from log source limit logs.NotCryptoAgile first = (first, refl)
log_first_from log source limit logs.BadHeader first = (first, refl)
log_first_from log source limit logs.DigestSize first = (first, refl)
log_first_from log source limit logs.NoBank first = (first, refl)
log_first_from log source limit (logs.UnknownAlg event) first = (first, refl)
log_first_from log source limit (logs.DoubleDigest event) first = (first, refl)
log_first_from log source limit (logs.MissingDigest event) first = (first, refl)
log_first_from log source limit (logs.BadRegister event) first = (first, refl)

-- The verifier's fault is `Memory` only if the log's is.
pub log_memory : (fault : LogFault) → fault_of_log fault ≡ faults.Memory → fault ≡ logs.Memory
log_memory logs.Memory e = refl
log_memory (logs.Truncated event) e = absurd cc
log_memory logs.NotCryptoAgile e = absurd cc
log_memory logs.BadHeader e = absurd cc
log_memory logs.DigestSize e = absurd cc
log_memory logs.NoBank e = absurd cc
log_memory (logs.UnknownAlg event) e = absurd cc
log_memory (logs.DoubleDigest event) e = absurd cc
log_memory (logs.MissingDigest event) e = absurd cc
log_memory (logs.BadRegister event) e = absurd cc

-- A log's own fault is never `Memory`.
pub log_not_memory : {A : Type 0} (log : List ℕ) (fault : LogFault) → HasLogFault log fault
    → ◌≡◌ {A = Result A VerifyFault} (Err (fault_of_log fault)) (Err faults.Memory) → ⊥
log_not_memory log fault has memory =
    let same : fault_of_log fault ≡ faults.Memory = cc in
    elim (subst (HasLogFault log) (log_memory fault same) has) [
      | inl header ↦ header.fault_is
      | inr event ↦ event.fault_is
    ]

-- ---- reports

-- The bytes of a view are the log's.
pub log_viewed : {viewed log : List ℕ} {table : List DeclaredAlgorithm} {events : List LogEvent} → viewed ≡ log → IsLog log table events → IsLog viewed table events
log_viewed {table = table} {events = events} same is = subst (λ (bytes : List ℕ). IsLog bytes table events) (sym same) is

-- The report on what is known of a list is the verdict.
pub verdict_by : {rule : AggregateRule} {log list : List ℕ} {expected : List Expected} {verdict : Verdict} {table : List DeclaredAlgorithm} {events : List LogEvent} {known : Checkpoint}
    → IsLog log table events → (is : IsCheckpoint list known) → verdict ≡ verdict_under rule (algs_in table) events is.entries expected
    → IsVerdictUnder rule log list expected verdict
verdict_by {table = table} {events = events} log is same = record {
  table = table;
  events = events;
  entries = is.entries;
  log_is = log;
  list_is = is.list_is;
  genuine = is.genuine;
  verdict_is = same;
}

-- Why there is none, where the log is one.
pub refused_from : {log : List ℕ} (old new : Option (List ℕ)) (limit : ℕ) (fault : VerifyFault) → ReadsAsLog log → IsMoreFault [] old new limit fault
    → IsVerifyFaultFrom log old new limit fault
refused_from old new limit (faults.Log fault) is why = absurd why
refused_from old new limit (faults.List fault) is why = (is, why)
refused_from old new limit (faults.Replay fault) is why = (is, why)
refused_from old new limit faults.Source is why = (is, why)
refused_from old new limit faults.TooLong is why = (is, why)
refused_from old new limit faults.Memory is why = tt
