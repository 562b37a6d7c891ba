-- What one bank, and what one event, tells of Secure Boot.
use Rattle.std.specs.Prelude.{ℕ, List}
use Rattle.pcr_banks.specs.declared.alg.Alg.{Alg}
use Rattle.boot_log.specs.Names.{LogEvent}
use Rattle.boot_answers.specs.declared.secure_boot_state.SecureBoot.{SecureBoot}
use Rattle.boot_answers.specs.declared.secure_boot_state.SecureBoot.TheVariants.{On, Off, Unknown}
use Rattle.measured_data.specs.declared.confirmed.Pcr.{Pcr}
use Rattle.measured_data.specs.Confirming.{IsAnswering}
use Rattle.boot_answers.specs.SecureBoot.{IsBefore, IsTelling, TellsSecureBoot, policy_register}

-- The answer of one value: on for 1, off for 0.
abbrev pub IsOf : (ℕ → Type 0) → SecureBoot → Type 0
IsOf tells On = tells 1
IsOf tells Off = tells 0
IsOf tells Unknown = (tells 1 → ⊥) × (tells 0 → ⊥)

-- The bank's answer.
abbrev pub IsToldIn : Alg → List LogEvent → SecureBoot → Type 0
IsToldIn alg events answer = IsOf (TellsSecureBoot alg events) answer

-- The bank's answer is this, if it answers for register 7.
abbrev pub Agrees : List Pcr → List LogEvent → SecureBoot → Alg → Type 0
Agrees matched events answer alg = IsAnswering matched alg policy_register → IsToldIn alg events answer

-- Each bank that answers gives this answer.
abbrev pub AllAgree : List Pcr → List LogEvent → SecureBoot → Type 0
AllAgree matched events answer = (alg : Alg) → Agrees matched events answer alg

-- The event's answer. It comes before no other.
pub record Ends (alg : Alg) (event : LogEvent) (answer : SecureBoot) : Type 0 where
  pub last : IsBefore alg event → ⊥
  pub told : IsOf (IsTelling alg event) answer
