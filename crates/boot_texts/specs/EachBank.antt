-- What each bank that answers tells of an event.
use Rattle.std.specs.Prelude.{List, ℕ}
use Rattle.pcr_banks.specs.declared.alg.Alg.{Alg}
use Rattle.boot_log.specs.Names.{LogEvent}
use Rattle.event_data.specs.Names.{VariableData}
use Rattle.measured_data.specs.declared.confirmed.Pcr.{Pcr}
use Rattle.measured_data.specs.Confirming.{IsAnswering}
use Rattle.boot_answers.specs.BootVariables.{IsBootVariable}
use Rattle.boot_answers.specs.Commands.{CommandSaid, IsCommandText}

-- A bank answers for the event's register, and each bank that does tells this text.
pub record TellText (matched : List Pcr) (event : LogEvent) (text : CommandSaid) : Type 0 where
  pub alg : Alg
  pub answering : IsAnswering matched alg event.register
  pub tells : (bank : Alg) → IsAnswering matched bank event.register → IsCommandText bank event text

-- Each bank that answers for the register tells this variable.
abbrev pub TellVariable : List Pcr → ℕ → LogEvent → VariableData → Type 0
TellVariable matched register event variable = (bank : Alg) → IsAnswering matched bank register → IsBootVariable bank event variable
