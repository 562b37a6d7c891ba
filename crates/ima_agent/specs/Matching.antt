-- The registers that match, by what the program's arguments name.
use Rattle.std.specs.Prelude.{ℕ, List, [], Option, string_bytes}
use Rattle.cells.specs.declared.writer.Form.{Form}
use Rattle.cells.specs.declared.writer.Form.TheVariants as told
use Rattle.boot_verdict.specs.Names.{ReadsAsLog}
use Rattle.measured_data.specs.declared.confirmed.Pcr.{Pcr}
use Rattle.agent_plans.specs.declared.plan.ConfirmedBy.{ConfirmedBy}
use Rattle.agent_plans.specs.declared.plan.ConfirmedBy.TheVariants as confirmed
use Rattle.agent_plans.specs.declared.plan.LogFile.{LogFile}
use Rattle.agent_inputs.specs.declared.fault.RunFault.{RunFault}
use Rattle.agent_inputs.specs.Faults.{HasLogFault}
use Rattle.agent_inputs.specs.Loading.{Inputs}
use Rattle.agent_inputs.specs.Opening.{opened_name}
use Rattle.judging.specs.Inputs.{BytesOf}
use Rattle.judging.specs.Queries.{attested_with, input_named}
use Rattle.confirming.specs.Matching.{ByExpected, ByNothing, ByQuote, Confirmation}
use Rattle.confirming.specs.Matching as matching

-- The name under which a log is opened whose events are shown, or that answers on a boot: `-` is standard input, which has none.
abbrev pub opened_log : LogFile → Option (List ℕ)
opened_log log = opened_name (string_bytes log.name)

-- What tells it, in the files of these names, or in standard input for expected registers of the name `-`. A quote is of the log that was loaded.
abbrev pub confirmation_by : ConfirmedBy → Confirmation
confirmation_by confirmed.Nothing = ByNothing
confirmation_by (confirmed.Expected name) = ByExpected (input_named (string_bytes name))
confirmation_by (confirmed.Quote quoting) = ByQuote (attested_with (BytesOf []) quoting)

-- The registers that match after the log, if something tells it; none are compared if nothing does. And the status once all is told.
abbrev pub AreMatched : Inputs → ConfirmedBy → List ℕ → Option (List Pcr) → ℕ → Type 0
AreMatched inputs confirmed_by log matched status = matching.AreMatched inputs (confirmation_by confirmed_by) log matched status

-- Why they are not known.
abbrev pub AreNotMatched : Inputs → ConfirmedBy → List ℕ → RunFault → Type 0
AreNotMatched inputs confirmed_by log fault = matching.AreNotMatched inputs (confirmation_by confirmed_by) log fault

-- ---- before a line is told

-- To people no line of a log is told that is no log.
abbrev pub IsKnownFor : Form → List ℕ → Type 0
IsKnownFor told.Json log = Unit {0}
IsKnownFor told.Text log = ReadsAsLog log

-- Why no line is told: the bytes are no log, and no registers are compared; or the registers that match are not known.
abbrev pub IsNotTold : Inputs → Form → ConfirmedBy → List ℕ → RunFault → Type 0
IsNotTold inputs told.Text confirmed.Nothing log fault = HasLogFault log fault
IsNotTold inputs form confirmed_by log fault = AreNotMatched inputs confirmed_by log fault

-- Where nothing tells which registers match, the bytes are a log, if its lines are told to people.
abbrev pub IsLookedThrough : Form → ConfirmedBy → List ℕ → Type 0
IsLookedThrough told.Text confirmed.Nothing log = ReadsAsLog log
IsLookedThrough form confirmed_by log = Unit {0}

-- They are to be a log, and have this fault.
abbrev pub IsNotLookedThrough : Form → ConfirmedBy → List ℕ → RunFault → Type 0
IsNotLookedThrough told.Text confirmed.Nothing log fault = HasLogFault log fault
IsNotLookedThrough form confirmed_by log fault = ⊥
