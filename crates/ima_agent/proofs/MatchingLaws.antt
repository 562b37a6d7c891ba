-- Where the registers that match are known, or not, lines are told, or not.
use Rattle.std.proofs.Common.{◌≡◌, List, ℕ}
use Rattle.agent_plans.specs.declared.plan.ConfirmedBy.{ConfirmedBy}
use Rattle.agent_plans.specs.declared.plan.ConfirmedBy.TheVariants.{Expected, Nothing, Quote}
use Rattle.cells.specs.declared.writer.Form.{Form}
use Rattle.cells.specs.declared.writer.Form.TheVariants.{Json, Text}
use Rattle.agent_inputs.specs.declared.fault.RunFault.{RunFault}
use Rattle.agent_inputs.specs.Loading.{Inputs}
use Rattle.confirming.specs.Matching.{IsComparedLog}
use Rattle.ima_agent.specs.Matching.{AreNotMatched, IsKnownFor, IsLookedThrough, IsNotLookedThrough, IsNotTold, confirmation_by}

pub known_for : (form : Form) (confirmed_by : ConfirmedBy) (log : List ℕ) → IsLookedThrough form confirmed_by log
    → IsComparedLog (confirmation_by confirmed_by) log → IsKnownFor form log
known_for Json confirmed_by log looked compared = tt
known_for Text Nothing log looked compared = looked
known_for Text (Expected name) log looked compared = compared
known_for Text (Quote quoting) log looked compared = compared

module _ (inputs : Inputs) (log : List ℕ) (fault : RunFault) where
  pub not_looked : (form : Form) (confirmed_by : ConfirmedBy) → IsNotLookedThrough form confirmed_by log fault
      → IsNotTold inputs form confirmed_by log fault
  not_looked Json confirmed_by none = absurd none
  not_looked Text Nothing is = is
  not_looked Text (Expected name) none = absurd none
  not_looked Text (Quote quoting) none = absurd none

  pub not_matched : (form : Form) (confirmed_by : ConfirmedBy) → AreNotMatched inputs confirmed_by log fault
      → IsNotTold inputs form confirmed_by log fault
  not_matched Json confirmed_by is = is
  not_matched Text Nothing none = absurd none
  not_matched Text (Expected name) is = is
  not_matched Text (Quote quoting) is = is
