-- What the told texts ask of Linux: whether its integrity measurement architecture (IMA) has a policy by them.
--
-- Root can append texts to both registers, and can extend one that the boot loader left empty. So a text that asks proves no policy. That no
-- text asks proves nothing either: no event says which boot loader made it, and the kernel may have options from one that measures none here.
use Rattle.std.specs.Prelude.{◌≡◌, ◌⊎◌, ℕ, ◌+◌, true, nat_lt, if◌then◌else◌, List, ◌∷◌, ◌++◌, length, Option, Some, None, option_and_then}
use Rattle.std.specs.List.{AllByRecursion, list_all}
use Rattle.std.specs.Str.{is_utf8}
use Rattle.boot_log.specs.Names.{LogEvent, is_extended_into}
use Rattle.event_texts.specs.WideTexts.{wide_text}
use Rattle.measured_data.specs.declared.confirmed.Pcr.{Pcr}
use Rattle.boot_answers.specs.Commands.{CommandSaid, grub, told_text, wide}
use Rattle.boot_answers.specs.Extending.{extended_events}
use Rattle.boot_answers.specs.ImaMeasuring.{AsksToMeasure}
use Rattle.boot_answers.specs.ImaPolicy.{MaySetImaPolicy}
use Rattle.boot_answers.specs.declared.policies.PolicyQuestion.{PolicyQuestion}
use Rattle.boot_answers.specs.declared.policies.PolicyQuestion.TheVariants.{Measuring, Policy}
use Rattle.boot_answers.specs.declared.policies.ImaPolicy.{ImaPolicy}
use Rattle.boot_answers.specs.declared.policies.ImaPolicy.TheVariants as policies

-- ---- one text

-- A text in which no byte is above 127.
abbrev pub ascii_only : List ℕ → Option (List ℕ)
ascii_only text = if list_all (λ byte. nat_lt byte 128) text then Some text else None

-- The text as Linux reads it. It is not known where the text is no UTF-8; or, in units of two bytes, no UTF-16 or no ASCII, since what hands it
-- to Linux may cut units to bytes.
abbrev pub read_text : CommandSaid → Option (List ℕ)
read_text (grub command) = if is_utf8 command.text then Some command.text else None
read_text (wide text) = option_and_then ascii_only (wide_text text)

-- The text asks to measure files; or it may ask for a policy, as may one that is not known.
abbrev pub Asks : PolicyQuestion → Option (List ℕ) → Type 0
Asks Measuring None = ⊥
Asks Measuring (Some text) = AsksToMeasure text
Asks Policy None = Unit {0}
Asks Policy (Some text) = MaySetImaPolicy text

-- ---- the events of a register

-- The event tells a text that does not ask this.
pub record Passes (asked : PolicyQuestion) (matched : List Pcr) (event : LogEvent) : Type 0 where
  pub text : CommandSaid
  pub told : told_text matched event ≡ Some text
  pub other : Asks asked (read_text text) → ⊥

-- The log's event with this number, which counts from 1, is the first of the register that tells a text that asks this. Each event of the
-- register before it tells a text.
pub record IsFirstAsking (asked : PolicyQuestion) (matched : List Pcr) (register : ℕ) (events : List LogEvent) (number : ℕ) : Type 0 where
  pub before : List LogEvent
  pub event : LogEvent
  pub after : List LogEvent
  pub parts : events ≡ before ++ event ∷ after
  pub number_is : number ≡ length before + 1
  pub extended : is_extended_into register event ≡ true
  pub passed : AllByRecursion (Passes asked matched) (extended_events register before)
  pub text : CommandSaid
  pub told : told_text matched event ≡ Some text
  pub asks : Asks asked (read_text text)

-- No text of the register that is told asks this.
abbrev pub NoneAsks : PolicyQuestion → List Pcr → ℕ → List LogEvent → Type 0
NoneAsks asked matched register events = (number : ℕ) → IsFirstAsking asked matched register events number → ⊥

-- The number is that of the register's first event that asks this, or there is none.
abbrev pub IsAskingIn : PolicyQuestion → List Pcr → ℕ → List LogEvent → Option ℕ → Type 0
IsAskingIn asked matched register events None = NoneAsks asked matched register events
IsAskingIn asked matched register events (Some number) = IsFirstAsking asked matched register events number

-- ---- both registers

-- The number is that of the first event that asks this, of register 8 or else of register 12.
abbrev pub IsAsking : PolicyQuestion → List Pcr → List LogEvent → ℕ → Type 0
IsAsking asked matched events number =
    IsFirstAsking asked matched 8 events number ⊎ (NoneAsks asked matched 8 events × IsFirstAsking asked matched 12 events number)

-- No told text of either register asks this.
abbrev pub NeitherAsks : PolicyQuestion → List Pcr → List LogEvent → Type 0
NeitherAsks asked matched events = NoneAsks asked matched 8 events × NoneAsks asked matched 12 events

abbrev pub IsAskingEvent : PolicyQuestion → List Pcr → List LogEvent → Option ℕ → Type 0
IsAskingEvent asked matched events None = NeitherAsks asked matched events
IsAskingEvent asked matched events (Some number) = IsAsking asked matched events number

-- The answer: a text asks to measure files; else a text may ask for a policy; else it is unknown.
abbrev pub IsImaPolicy : List Pcr → List LogEvent → ImaPolicy → Type 0
IsImaPolicy matched events (policies.Asked number) = IsAsking Measuring matched events number
IsImaPolicy matched events (policies.Possible number) = NeitherAsks Measuring matched events × IsAsking Policy matched events number
IsImaPolicy matched events policies.Unknown = NeitherAsks Measuring matched events × NeitherAsks Policy matched events
