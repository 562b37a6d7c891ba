-- The text of an error, by what is reported of it.
use Rattle.std.specs.Prelude.{ℕ, ℤ, pos, ◌==◌, if◌then◌else◌, ◌≡◌, ◌⊎◌, true, List, Option, None, Some, is_some}
use Rattle.agent_inputs.specs.declared.fault.FaultKind.{FaultKind}
use Rattle.agent_inputs.specs.declared.fault.FaultKind.TheVariants as kinds
use Rattle.agent_inputs.specs.declared.fault.RunFault.{RunFault}
use Rattle.agent_inputs.specs.declared.fault.RunFault.TheVariants.{Memory}
use Rattle.error_texts.specs.ErrorTexts.{error_text}
use Rattle.rendering.specs.FaultTexts.{fault_line}
use Rattle.ima_verify_c.specs.Answers.{Answers, info_of}
use Rattle.ima_verify_c.specs.declared.text_info.TextInfo.{TextInfo}

-- The kind that has this number, if one has it.
abbrev pub kind_of : ℕ → Option FaultKind
kind_of number =
    if number == 1 then Some kinds.Usage
    else if number == 2 then Some kinds.Log
    else if number == 3 then Some kinds.List
    else if number == 4 then Some kinds.Replay
    else if number == 5 then Some kinds.Expect
    else if number == 6 then Some kinds.Checkpoint
    else if number == 7 then Some kinds.Memory
    else if number == 8 then Some kinds.Quote
    else if number == 9 then Some kinds.Key
    else if number == 10 then Some kinds.Known
    else if number == 11 then Some kinds.Signature
    else if number == 12 then Some kinds.ListText
    else if number == 13 then Some kinds.LogForm
    else None

-- The event, the entry or the line; nothing if the error names none.
abbrev pub place_of : ℕ → Option ℕ
place_of place = if place == 18446744073709551615 then None else Some place

abbrev pub text_of : Option FaultKind → ℕ → Option ℕ → Option (List ℕ)
text_of None number place = None
text_of (Some kind) number place = error_text kind number place

-- The text of the error with this kind, number and place, if that is one.
abbrev pub text_by : ℕ → ℕ → ℕ → Option (List ℕ)
text_by kind number place = text_of (kind_of kind) number (place_of place)

-- The text was given with 0; or the line that memory ran out, with 3.
abbrev pub IsErrorText : List ℕ → List ℕ → ℕ → Option RunFault → Type 0
IsErrorText wanted text status fault =
    ((text ≡ wanted) × (status ≡ 0) × (fault ≡ None)) ⊎ ((text ≡ fault_line Memory) × (status ≡ 3) × (fault ≡ Some Memory))

-- There is no such error: nothing was written.
pub record IsNoError (answer : ℤ) (info : TextInfo) (old new : List ℕ) : Type 0 where
  pub answer_is : answer ≡ pos 6
  pub info_is : info ≡ info_of 0 None
  pub same : new ≡ old

abbrev pub GivesErrorText : Option (List ℕ) → ℤ → TextInfo → List ℕ → List ℕ → Type 0
GivesErrorText (Some wanted) answer info old new = Answers (IsErrorText wanted) answer info old new
GivesErrorText None answer info old new = IsNoError answer info old new

-- The error that is reported has a text, if one is reported.
abbrev pub HasText : TextInfo → Type 0
HasText info = is_some (kind_of info.error_kind) ≡ true → is_some (text_by info.error_kind info.error_number info.error_place) ≡ true
