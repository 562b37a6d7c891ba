-- What is answered on a boot.
use Rattle.std.specs.Prelude.{◌≡◌, ◌⊎◌, ℕ, List, [], ◌++◌, Option, None, Some}
use Rattle.boot_log.specs.declared.header.DeclaredAlgorithm.{DeclaredAlgorithm}
use Rattle.boot_log.specs.Names.{IsLog, LogEvent}
use Rattle.measured_data.specs.declared.confirmed.Pcr.{Pcr}
use Rattle.boot_texts.specs.BootLines.{AreBootTexts}
use Rattle.boot_texts.specs.Differences.{AreDifferenceLines}
use Rattle.cells.specs.declared.writer.Form.{Form}
use Rattle.agent_inputs.specs.declared.fault.RunFault.{RunFault}
use Rattle.agent_inputs.specs.Faults.{HasLogFault}
use Rattle.agent_inputs.specs.Loading.{Inputs}
use Rattle.judging.specs.Inputs.{IsInputFault, OfInput, Where}
use Rattle.confirming.specs.Matching.{AreMatched, AreNotMatched, Confirmation, IsLogFaultOf}

-- The registers that match; none where none were compared.
abbrev pub places_of : Option (List Pcr) → List Pcr
places_of None = []
places_of (Some places) = places

-- The text tells how far the boot with these events, and the earlier one that left the log in this input, extended each register alike; without
-- an input it is empty.
abbrev pub AreCompared : Inputs → Form → List Pcr → List LogEvent → Option Where → List ℕ → Type 0
AreCompared inputs form matched events None text = text ≡ []
AreCompared inputs form matched events (Some place) text =
    OfInput inputs place (λ earlier. (table : List DeclaredAlgorithm) × (others : List LogEvent) × IsLog earlier table others
    × AreDifferenceLines form matched events others text)

-- The bytes are a log, and the text answers what was booted, by the registers that match, or if none were compared has what is claimed; and
-- compares this with the boot of the log in the input `before`, if there is one. The status is that of what they match by.
pub record ShowsBoot (inputs : Inputs) (form : Form) (confirmed_by : Confirmation) (before : Option Where) (log text : List ℕ) (status : ℕ)
    : Type 0 where
  pub table : List DeclaredAlgorithm
  pub events : List LogEvent
  pub log_is : IsLog log table events
  pub matched : Option (List Pcr)
  pub are_matched : AreMatched inputs confirmed_by log matched status
  pub answers : List ℕ
  pub are_answers : AreBootTexts form matched events answers
  pub compared : List ℕ
  pub are_compared : AreCompared inputs form (places_of matched) events before compared
  pub text_is : text ≡ answers ++ compared

-- Why there is no log of an earlier boot: the input is not loaded; or its bytes are no log.
abbrev pub IsNoEarlierLog : Inputs → Option Where → RunFault → Type 0
IsNoEarlierLog inputs None fault = ⊥
IsNoEarlierLog inputs (Some place) fault =
    IsInputFault inputs place fault ⊎ OfInput inputs place (λ earlier. HasLogFault earlier fault)

-- Why there is no answer: the registers that match are not known; the bytes are no log, or are one and memory ran out; or there is no log of an
-- earlier boot.
abbrev pub IsNoBoot : Inputs → Confirmation → Option Where → List ℕ → RunFault → Type 0
IsNoBoot inputs confirmed_by before log fault =
    AreNotMatched inputs confirmed_by log fault ⊎ (IsLogFaultOf log fault ⊎ IsNoEarlierLog inputs before fault)
