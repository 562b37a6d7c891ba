-- A log with what its H-CRTM event tells, by what it is read as.
use Rattle.std.proofs.Common.{◌≡◌, ℕ, List, Ok, Err, Result, refl, sym, ◌∙◌}
use Rattle.std.specs.Prelude.{IfOk}
use Rattle.byte_fields.specs.Spelling.{IsBytes}
use Rattle.byte_fields.proofs.Steps.{ok_not_err}
use Rattle.pcr_banks.specs.declared.sets.AlgSet.{AlgSet}
use Rattle.boot_log.specs.declared.fault.LogFault.{LogFault}
use Rattle.boot_log.specs.declared.header.DeclaredAlgorithm.{DeclaredAlgorithm}
use Rattle.boot_log.specs.Names.{IsLog, LogEvent, algs_in, log_at}
use Rattle.boot_log.proofs.LogLaws.{IsLogReading, log_again, log_reading}
use Rattle.log_imports.specs.Starts.{told_log}
use Rattle.agent_inputs.specs.Opening.{told, told_by}

-- Bytes that are no log stay as they are, and a log has what its events tell.
abbrev IsTold : List ℕ → List ℕ → Type 0
IsTold log content = (table : List DeclaredAlgorithm) (events : List LogEvent) → IsLog log table events → content ≡ told_log log events

abbrev StaysOther : List ℕ → List ℕ → Type 0
StaysOther log content = ((table : List DeclaredAlgorithm) (events : List LogEvent) → IsLog log table events → ⊥) → content ≡ log

by_reading : (log content : List ℕ) (reading : Result (AlgSet × List LogEvent) LogFault) → IsBytes log → log_at log ≡ reading
    → IsLogReading log reading → IsTold log content → StaysOther log content → content ≡ told_by log reading
by_reading log content (Ok read) fits is (table, log_is, algs) found other = found table read.1 log_is
by_reading log content (Err fault) fits is fails found other =
    other (λ table events log_is. ok_not_err (algs_in table, events) fault (sym (log_again log table events fits log_is) ∙ is))

told_here : (log content : List ℕ) → IsBytes log → IsTold log content → StaysOther log content → content ≡ told log
told_here log content fits found other = by_reading log content (log_at log) fits refl (log_reading log fits) found other

pub told_result : {A E : Type 0} (items : A → List ℕ) (log : List ℕ) (result : Result A E) → IsBytes log
    → IfOk result (λ made. IsTold log (items made)) → IfOk result (λ made. StaysOther log (items made)) → IfOk result (λ made. items made ≡ told log)
told_result items log (Ok made) fits found other = told_here log (items made) fits found other
told_result items log (Err fault) fits found other = tt
