-- How the events of a log are shown.
use Rattle.std.specs.Prelude.{◌≡◌, ℕ, Bool, true, false, ◌⊎◌, List, [], Option, Some, None}
use Rattle.boot_log.specs.declared.header.DeclaredAlgorithm.{DeclaredAlgorithm}
use Rattle.boot_log.specs.Names.{BeginsWith, LogEvent}
use Rattle.measured_data.specs.declared.confirmed.Pcr.{Pcr}
use Rattle.event_lines.specs.EventTexts.{events_text}
pub use Rattle.cells.specs.declared.writer.Form.{Form}
pub use Rattle.cells.specs.ItemLines.{EndsWithFault}
pub use Rattle.event_lines.specs.LogLines.{AreAllEvents, FailsAfterEvents}
pub use Rattle.event_lines.specs.SentEvents.{log_lines}
use Rattle.agent_plans.specs.declared.plan.ConfirmedBy.{ConfirmedBy}
use Rattle.agent_plans.specs.declared.plan.DataShown.{DataShown}
use Rattle.agent_plans.specs.declared.plan.DataShown.TheVariants.{Size, Bytes, Meaning}
use Rattle.cells.specs.declared.writer.Form.TheVariants as forms
use Rattle.agent_inputs.specs.declared.fault.RunFault.{RunFault}
use Rattle.agent_inputs.specs.declared.fault.RunFault.TheVariants as runs
use Rattle.agent_inputs.specs.Faults.{HasLogFault, fault_of_log}
use Rattle.agent_inputs.specs.Loading.{Inputs}
use Rattle.rendering.specs.FaultTexts.{IsFailure}
use Rattle.ima_agent.specs.Matching.{AreMatched, IsKnownFor, IsNotTold}
pub use Rattle.ima_agent.specs.Showing.{IsReported}
use Rattle.ima_agent.specs.Showing.{ShowsToFault}

-- Whether plain lines have the data, where events are shown in plain lines in this form; in others what the data says is told.
abbrev pub plain_lines : Form → DataShown → Option Bool
plain_lines forms.Text Size = Some false
plain_lines forms.Text Bytes = Some true
plain_lines forms.Text Meaning = None
plain_lines forms.Json requested = None

-- What can be read of the bytes as a log is shown with what its data says, and with what the registers that match confirm; with this status, if
-- that is all.
abbrev pub ShowsTold : Form → Option (List Pcr) → ℕ → List ℕ → List ℕ → ℕ → Type 0
ShowsTold form matched done log shown status =
    ShowsToFault done (AreAllEvents (log_lines form matched log) log) (FailsAfterEvents (log_lines form matched log) fault_of_log log) (IsReported form) shown
    status

-- The text is the lines of a header and events that the bytes begin with, and then memory ran out.
abbrev pub RunsOutAfterEvents : Form → Option (List Pcr) → List ℕ → List ℕ → RunFault → Type 0
RunsOutAfterEvents form matched log text fault =
    (fault ≡ runs.Memory)
    × ((table : List DeclaredAlgorithm) × (given : List LogEvent) × (rest : List ℕ) × BeginsWith log table given rest × (text ≡ log_lines form matched log table given))

-- ---- a log whose bytes were loaded

-- Its events are shown in this form: in plain lines all of them, with their data or without; else as far as they go, which for people is all of them, and with
-- what the registers confirm that match, by what tells it.
abbrev pub ShowsEvents : Inputs → Form → Option Bool → ConfirmedBy → List ℕ → List ℕ → ℕ → Type 0
ShowsEvents inputs form (Some with_data) confirmed_by log text status = AreAllEvents (events_text with_data) log text × (status ≡ 0)
ShowsEvents inputs form None confirmed_by log text status =
    IsKnownFor form log
    × ((matched : Option (List Pcr)) × (done : ℕ) × AreMatched inputs confirmed_by log matched done
    × ShowsTold form matched done log text status)

-- Why no line of it is shown: the bytes are no log; or what is to be known before is not.
abbrev pub IsNoneShownFor : Inputs → Form → Option Bool → ConfirmedBy → List ℕ → RunFault → Type 0
IsNoneShownFor inputs form (Some with_data) confirmed_by log fault = HasLogFault log fault
IsNoneShownFor inputs form None confirmed_by log fault = IsNotTold inputs form confirmed_by log fault

-- Memory ran out after the lines of some of its events.
abbrev pub BreaksOffAfterEvents : Inputs → Form → Option Bool → ConfirmedBy → List ℕ → List ℕ → ℕ → Type 0
BreaksOffAfterEvents inputs form (Some with_data) confirmed_by log text status = ⊥
BreaksOffAfterEvents inputs form None confirmed_by log text status =
    IsKnownFor form log
    × ((matched : Option (List Pcr)) × (done : ℕ) × AreMatched inputs confirmed_by log matched done
    × EndsWithFault (RunsOutAfterEvents form matched log) (IsReported form) text status)

-- ---- what is shown while its input is read

-- The plain lines of the log in these bytes are shown, or why not.
abbrev pub ShowsPlainEventsIn : Form → Bool → List ℕ → List ℕ → ℕ → Type 0
ShowsPlainEventsIn form with_data log text status =
    (AreAllEvents (events_text with_data) log text × (status ≡ 0))
    ⊎ ((fault : RunFault) × HasLogFault log fault × IsFailure form fault text status)

-- Why no more of the log in these bytes is shown than this text: it fails; or memory ran out, after some events or before the first line.
abbrev pub StopsInLog : Form → Option (List Pcr) → List ℕ → List ℕ → RunFault → Type 0
StopsInLog form matched log text fault =
    FailsAfterEvents (log_lines form matched log) fault_of_log log text fault
    ⊎ RunsOutAfterEvents form matched log text fault
    ⊎ ((fault ≡ runs.Memory) × (text ≡ []))

-- The log in these bytes is shown with what its data says, as far as it goes; with this status, if that is all.
abbrev pub ShowsEventsIn : Form → Option (List Pcr) → ℕ → List ℕ → List ℕ → ℕ → Type 0
ShowsEventsIn form matched done log shown status =
    ShowsToFault done (AreAllEvents (log_lines form matched log) log) (StopsInLog form matched log) (IsReported form) shown status

-- It is, with what the registers confirm that match; or why it is not told.
abbrev pub ShowsToldOf : Inputs → Form → ConfirmedBy → List ℕ → List ℕ → ℕ → Type 0
ShowsToldOf inputs form confirmed_by log shown status =
    (IsKnownFor form log
    × ((matched : Option (List Pcr)) × (done : ℕ) × AreMatched inputs confirmed_by log matched done
    × ShowsEventsIn form matched done log shown status))
    ⊎ ((fault : RunFault) × IsNotTold inputs form confirmed_by log fault × IsFailure form fault shown status)
