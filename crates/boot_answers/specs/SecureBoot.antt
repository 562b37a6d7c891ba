-- Whether Secure Boot was on (PC Client Platform Firmware Profile, PCR 7; UEFI 2.10, chapter 'Secure Boot and Driver Signing').
--
-- The firmware extends register 7 by the variable SecureBoot, before it starts any program that it did not bring. Root can append what it
-- likes to the register, also another SecureBoot: hence the first one counts, and none after a separator, which the firmware extends
-- when it hands over. Root can hide an event by showing other data: hence all data before it must be measured. Root can show any type:
-- hence no type counts. A firmware may measure the variable again before it hands over, where keys change: this does not change how
-- programs were verified before, and is not told. A firmware that extends register 7 by nothing in any bank that matches, against the
-- profile, leaves all of it to root: no log tells that.
use Rattle.std.specs.Prelude.{◌≡◌, ℕ, List, [], ◌∷◌, ◌++◌, codes, length}
use Rattle.std.specs.List.{AllByRecursion}
use Rattle.pcr_banks.specs.declared.alg.Alg.{Alg}
use Rattle.boot_log.specs.Names.{LogEvent}
use Rattle.measured_data.specs.declared.measured.Part.TheVariants.{Whole}
use Rattle.measured_data.specs.declared.confirmed.Pcr.{Pcr}
use Rattle.measured_data.specs.Measuring.{IsMeasured}
use Rattle.measured_data.specs.Confirming.{IsAnswering}
use Rattle.boot_answers.specs.declared.secure_boot_state.SecureBoot.{SecureBoot}
use Rattle.boot_answers.specs.declared.secure_boot_state.SecureBoot.TheVariants.{On, Off, Unknown}
use Rattle.boot_answers.specs.Extending.{extended_events}
use Rattle.boot_answers.specs.Variables.{IsNamed, global_guid, wide}

-- The register of Secure Boot.
abbrev pub policy_register : ℕ
policy_register = 7

-- The bytes are the variable SecureBoot, with this value.
abbrev pub IsSecureBootVariable : List ℕ → List ℕ → Type 0
IsSecureBootVariable bytes value = IsNamed global_guid (wide (codes "SecureBoot")) bytes value

-- An event that may come before the variable: its data is measured whole, is no separator, and is not the variable.
pub record IsBefore (alg : Alg) (event : LogEvent) : Type 0 where
  pub measured : IsMeasured alg event Whole
  pub no_separator : length event.payload ≡ 4 → ⊥
  pub other : (value : List ℕ) → IsSecureBootVariable event.payload value → ⊥

-- The event's data is measured whole, and is the variable with a value of this one byte.
pub record IsTelling (alg : Alg) (event : LogEvent) (value : ℕ) : Type 0 where
  pub measured : IsMeasured alg event Whole
  pub variable : IsSecureBootVariable event.payload (value ∷ [])

-- Among the events that are extended into register 7, this value is told by one before which all others may come.
pub record TellsSecureBoot (alg : Alg) (events : List LogEvent) (value : ℕ) : Type 0 where
  pub before : List LogEvent
  pub event : LogEvent
  pub after : List LogEvent
  pub parts : extended_events policy_register events ≡ before ++ event ∷ after
  pub passed : AllByRecursion (IsBefore alg) before
  pub telling : IsTelling alg event value

-- A bank answers for register 7, and each bank that answers tells this value. A bank that the firmware did not extend is root's: it tells
-- nothing against one that the firmware did extend.
pub record IsTold (matched : List Pcr) (events : List LogEvent) (value : ℕ) : Type 0 where
  pub alg : Alg
  pub answering : IsAnswering matched alg policy_register
  pub tells : (bank : Alg) → IsAnswering matched bank policy_register → TellsSecureBoot bank events value

-- The answer: on where 1 is told, off where 0 is told, unknown where neither is.
abbrev pub IsSecureBoot : List Pcr → List LogEvent → SecureBoot → Type 0
IsSecureBoot matched events On = IsTold matched events 1
IsSecureBoot matched events Off = IsTold matched events 0
IsSecureBoot matched events Unknown = (IsTold matched events 1 → ⊥) × (IsTold matched events 0 → ⊥)
