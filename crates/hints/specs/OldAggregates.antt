-- Whether a list records the boot aggregate of a kernel before 5.8.
use Rattle.std.specs.Prelude.{◌≡◌, ◌⊎◌, ℕ, ◌<◌, Bool, true, false, List, [], ◌∷◌, length, Option, None, Some, IsTrue}
use Rattle.pcr_banks.specs.declared.alg.Alg.{Alg}
use Rattle.pcr_banks.specs.declared.banks.Banks.{Banks}
use Rattle.boot_log.specs.declared.header.DeclaredAlgorithm.{DeclaredAlgorithm}
use Rattle.boot_log.specs.Names.{IsLog, LogEvent, algs_in}
use Rattle.ima_list.specs.Names.{BeginsWith, ListEntry, spelling}
use Rattle.boot_verdict.specs.Names.{is_old, pcr_after_log, recorded_by_any}
use Rattle.agent_inputs.specs.declared.fault.RunFault.{RunFault}
use Rattle.agent_inputs.specs.declared.fault.RunFault.TheVariants.{Memory}
use Rattle.agent_inputs.specs.Loading.{Inputs, OfInput}
use Rattle.judging.specs.declared.request.Answer.{Answer}
use Rattle.judging.specs.declared.request.Answer.TheVariants as answers
use Rattle.judging.specs.Answering.{AreRegistersAfter, IsRefusal}
use Rattle.judging.specs.Inputs.{Where}
use Rattle.judging.specs.Inputs.{OfInput as OfPlace}
use Rattle.judging.specs.Requests.{LogRegistersOf}
use Rattle.hints.specs.Heads.{head_size}

-- The first entry of the list records it.
pub record BeginsWithOld (values : Alg → ℕ → Option (List ℕ)) (list : List ℕ) : Type 0 where
  pub first : ListEntry
  pub rest : List ℕ
  pub begins : BeginsWith list (first ∷ []) rest
  pub records : is_old values (recorded_by_any first) ≡ true

-- The first entry of the list records that of the registers after the log.
pub record RecordsOld (log list : List ℕ) : Type 0 where
  pub table : List DeclaredAlgorithm
  pub events : List LogEvent
  pub log_is : IsLog log table events
  pub first_is : BeginsWithOld (pcr_after_log (algs_in table) events) list

-- The registers of an answer, if it is of some.
abbrev pub registers_in : Answer → Option Banks
registers_in (answers.Registers registers) = Some registers.now
registers_in answer = None

-- The registers after this log; none only if the log is refused, and memory did not run out.
abbrev pub LogLeaves : Inputs → Where → Option Banks → Type 0
LogLeaves inputs log (Some registers) = OfPlace inputs log (λ content. (start : Banks) × AreRegistersAfter content start registers)
LogLeaves inputs log None = (fault : RunFault) × IsRefusal inputs (LogRegistersOf log) fault × (fault ≡ Memory → ⊥)

-- Whether the list in the file of this name records the old aggregate after the log. `true` is said only if it does. If it does and `false`
-- is said, the log is refused, the list may fail, or its first entry is longer than what is looked at.
abbrev pub IsSaidOld : Inputs → Option Where → Option (List ℕ) → Bool → Type 0
IsSaidOld inputs (Some log) (Some list) true = OfPlace inputs log (λ log. OfInput inputs (Some list) (RecordsOld log))
IsSaidOld inputs (Some log) (Some list) false =
    LogLeaves inputs log None
    ⊎ IsTrue (inputs.may_fail (Some list))
    ⊎ OfPlace inputs log
    (λ log. OfInput inputs (Some list) (λ list. (old : RecordsOld log list) → head_size < length (spelling old.first_is.first)))
IsSaidOld inputs log list said = said ≡ false
