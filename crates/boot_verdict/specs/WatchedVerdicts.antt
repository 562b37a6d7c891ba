-- A verdict on a log and a list whose entries were watched, and the registers by which it was made.
use Rattle.std.specs.Prelude.{◌≡◌, ◌||◌, ℕ, if◌then◌else◌, List, Option, None}
use Rattle.pcr_banks.specs.declared.alg.Alg.{Alg}
use Rattle.pcr_banks.specs.declared.banks.Banks.{Banks}
use Rattle.pcr_banks.specs.declared.sets.AlgSet.{AlgSet}
use Rattle.pcr_banks.specs.Names.{has_alg, value_at}
use Rattle.pcr_values.specs.declared.expected.Expected.{Expected}
use Rattle.boot_log.specs.Names.{LogEvent, algs_in}
use Rattle.ima_list.specs.Names.{ListEntry}
use Rattle.boot_verdict.specs.declared.aggregate_rule.AggregateRule.{AggregateRule}
use Rattle.boot_verdict.specs.ListReplays.{AreTracked}
use Rattle.boot_verdict.specs.ListSources.{CameWhole}
use Rattle.boot_verdict.specs.Tracking.{After}
use Rattle.boot_verdict.specs.Verdicts.{IsVerdictUnder, Verdict, pcr_after_log_and_list}
use Rattle.boot_verdict.specs.parts.Kept.{is_asked}

-- The banks have each register of the algorithms `more`, and of those of expected registers, as it is after these events of a log with the
-- algorithms `algs`, and then these entries; and they have no other.
abbrev pub HaveRegisters : List Expected → AlgSet → AlgSet → List LogEvent → List ListEntry → Banks → Type 0
HaveRegisters expected more algs events entries banks = (alg : Alg) (register : ℕ)
    → value_at banks alg register
    ≡ (if has_alg more alg || is_asked expected alg then pcr_after_log_and_list algs events entries alg register else None)

-- All bytes that a source had left, at most `limit`, are a list, and this is the verdict by the rule on the log and the list; these banks have the
-- registers of the algorithms `more` and of the expected registers; and `watch` has tracked the list's entries.
pub record WatchesVerdict {W : Type 0} (IsAfter : After W) (start : W) (rule : AggregateRule) (log : List ℕ) (old new : Option (List ℕ)) (limit : ℕ) (expected : List Expected) (more : AlgSet) (verdict : Verdict) (registers : Banks) (watch : W) : Type 0 where
  pub list : List ℕ
  pub came : CameWhole old new limit list
  pub verdict_is : IsVerdictUnder rule log list expected verdict
  pub registers_are : HaveRegisters expected more (algs_in verdict_is.table) verdict_is.events verdict_is.entries registers
  pub tracked : AreTracked IsAfter start verdict_is.entries watch
