-- What is answered on a boot, by the logs and the rest that the program's arguments name.
use Rattle.std.specs.Prelude.{ℕ, Bool, List, Option, option_map}
use Rattle.agent_plans.specs.declared.plan.ConfirmedBy.{ConfirmedBy}
use Rattle.cells.specs.declared.writer.Form.{Form}
use Rattle.agent_inputs.specs.declared.fault.RunFault.{RunFault}
use Rattle.agent_inputs.specs.Loading.{Inputs}
use Rattle.judging.specs.Queries.{log_place}
use Rattle.confirming.specs.Boot as boots
use Rattle.ima_agent.specs.Matching.{confirmation_by}

-- The text answers what the boot was that left the log in these bytes, and compares it with that of the log in the file of this name, if there is
-- one, which is replayed as the other.
abbrev pub ShowsBoot : Inputs → Form → ConfirmedBy → Bool → Option (List ℕ) → List ℕ → List ℕ → ℕ → Type 0
ShowsBoot inputs form confirmed_by hcrtm before log text status =
    boots.ShowsBoot inputs form (confirmation_by confirmed_by) (option_map (log_place hcrtm) before) log text status

-- Why there is no answer.
abbrev pub IsNoBootFor : Inputs → ConfirmedBy → Bool → Option (List ℕ) → List ℕ → RunFault → Type 0
IsNoBootFor inputs confirmed_by hcrtm before log fault =
    boots.IsNoBoot inputs (confirmation_by confirmed_by) (option_map (log_place hcrtm) before) log fault
