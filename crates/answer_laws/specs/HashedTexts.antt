-- What the machine extended a register by, where a text of a boot loader is told.
use Rattle.std.specs.Prelude.{◌≡◌, ℕ, true, List, ◌∷◌, ◌++◌, Some}
use Rattle.byte_fields.specs.Spelling.{IsBytes}
use Rattle.pcr_banks.specs.declared.alg.Alg.{Alg}
use Rattle.pcr_banks.specs.Names.{extended_by_all, hash_of, reset_value}
use Rattle.binding_laws.specs.BankBinding.{ExtendsBreakHash}
use Rattle.boot_log.specs.Names.{LogEvent, digests_for, firmware_value, is_extended_into, startup_locality}
use Rattle.event_data.specs.Names.{IsWideText, hashed_text}
use Rattle.measured_data.specs.declared.confirmed.Pcr.{Pcr}
use Rattle.boot_answers.specs.Commands.{CommandSaid, grub, told_text, wide}

-- An event of the log, extended into the register, tells this text.
pub record TellsText (matched : List Pcr) (register : ℕ) (events : List LogEvent) (text : CommandSaid) : Type 0 where
  pub before : List LogEvent
  pub event : LogEvent
  pub after : List LogEvent
  pub parts : events ≡ before ++ event ∷ after
  pub extended : is_extended_into register event ≡ true
  pub fits : IsBytes event.payload
  pub told : told_text matched event ≡ Some text

-- The machine, started from this locality, extended the register by these digests, one after another, whoever made them; and has the value
-- that the log gives.
abbrev pub HasExtended : Alg → ℕ → ℕ → List (List ℕ) → List LogEvent → Type 0
HasExtended alg register locality digests events =
    extended_by_all alg (reset_value alg register locality) digests ≡ firmware_value events alg register

-- The bytes are the text as a boot loader hashes it: of a command of GRUB the text, in RHEL 8's mostly with its NUL; in units of two bytes
-- all of it, with the NUL unit at its end.
abbrev pub IsHashedText : CommandSaid → List ℕ → Type 0
IsHashedText (grub command) bytes = bytes ≡ hashed_text command
IsHashedText (wide text) bytes = IsWideText bytes text

-- One of the digests is the hash of the text.
pub record HasHashOf (alg : Alg) (text : CommandSaid) (digests : List (List ℕ)) : Type 0 where
  pub bytes : List ℕ
  pub prefix : List (List ℕ)
  pub back : List (List ℕ)
  pub is_text : IsHashedText text bytes
  pub parts : digests ≡ prefix ++ hash_of alg bytes ∷ back

-- The machine's extends and the log's break the hash.
abbrev pub ExtendsBreak : Alg → ℕ → ℕ → List (List ℕ) → List LogEvent → Type 0
ExtendsBreak alg register locality digests events =
    ExtendsBreakHash alg (reset_value alg register locality) digests (reset_value alg register (startup_locality events))
    (digests_for alg register events)
