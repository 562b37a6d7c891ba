-- What the events of a log tell, one after another.
use Rattle.std.specs.Prelude.{◌≡◌, ◌⊎◌, ℕ, ◌+◌, ◌&&◌, ◌||◌, Bool, true, false, not, if◌then◌else◌, List, [], ◌∷◌, ◌++◌, Option, Some, None}
use Rattle.std.specs.List.{list_all}
use Rattle.std.specs.Option.{option_map_or}
use Rattle.pcr_banks.specs.declared.alg.Alg.{Alg}
use Rattle.pcr_banks.specs.Names.{all_algs}
use Rattle.boot_log.specs.Names.{LogEvent, is_extended_into}
use Rattle.event_data.specs.Names.{variable_in}
use Rattle.measured_data.specs.declared.measured.Part.TheVariants.{Value, Whole}
use Rattle.measured_data.specs.declared.confirmed.Pcr.{Pcr}
use Rattle.measured_data.specs.Confirming.{is_answering}
use Rattle.measured_data.specs.Measuring.{is_measured, settings_register}
use Rattle.boot_answers.specs.Commands.{CommandSaid, told_text}
use Rattle.boot_answers.specs.Images.{MayBeImage, image_register}
use Rattle.boot_answers.specs.Separators.{MayBeSeparator}
use Rattle.cells.specs.declared.writer.Form.{Form}
use Rattle.boot_texts.specs.declared.boot_lines.BootQuestion.{BootQuestion}
use Rattle.boot_texts.specs.declared.boot_lines.BootQuestion.TheVariants.{Claims, Images, Commands, Variables}
use Rattle.cells.specs.Cells.{rendered}
use Rattle.boot_texts.specs.AnswerCells.{command_cell, image_cell, unknown_command_cell, variable_cell}
use Rattle.boot_texts.specs.Boots.{is_boot_variable}
use Rattle.boot_texts.specs.Claims.{IsClaimLine}

-- Whether the events after one are looked at, and the text of the one, are these.
abbrev pub Are : Bool → List ℕ → Bool × List ℕ → Type 0
Are goes text answer = (goes ≡ answer.0) × (text ≡ answer.1)

-- The text of these events one after another, the first with this number, up to one after which none is looked at. `IsLine` relates an event's
-- number, the event, whether those after it are looked at, and its text.
abbrev pub AreEventLines : (ℕ → LogEvent → Bool → List ℕ → Type 0) → ℕ → List LogEvent → List ℕ → Type 0
AreEventLines IsLine number [] text = text ≡ []
AreEventLines IsLine number (event ∷ events) text =
    IsLine number event false text
    ⊎ ((first : List ℕ) × (rest : List ℕ) × IsLine number event true first × AreEventLines IsLine (number + 1) events rest × (text ≡ first ++ rest))

-- ---- images

-- The bank answers for images, and by it the event may be one.
pub record IsImageBy (matched : List Pcr) (event : LogEvent) (alg : Alg) : Type 0 where
  pub answers : is_answering matched alg image_register ≡ true
  pub image : MayBeImage alg event

-- The event may be an image by some bank that answers.
abbrev pub MayBeImageIn : List Pcr → LogEvent → Type 0
MayBeImageIn matched event = (alg : Alg) × IsImageBy matched event alg

-- Each event that may be an image is told.
abbrev pub IsImageLine : Form → List Pcr → ℕ → LogEvent → Bool → List ℕ → Type 0
IsImageLine form matched number event goes text =
    (goes ≡ true)
    × ((MayBeImageIn matched event × (text ≡ rendered form (image_cell matched number event))) ⊎ ((MayBeImageIn matched event → ⊥) × (text ≡ [])))

-- ---- commands

-- Whether the events after one are looked at, and its line, where this is its text.
abbrev pub command_answer : ℕ → Form → ℕ → Option CommandSaid → Bool × List ℕ
command_answer register form number (Some text) = (true, rendered form (command_cell register number text))
command_answer register form number None = (false, rendered form (unknown_command_cell register (Some number)))

-- The texts of the register's events are told, up to the first event that tells none.
abbrev pub IsCommandLine : ℕ → Form → List Pcr → ℕ → LogEvent → Bool → List ℕ → Type 0
IsCommandLine register form matched number event goes text =
    Are goes text (if is_extended_into register event then command_answer register form number (told_text matched event) else (true, []))

-- ---- boot variables

-- The bank answers for settings, and by it the event may be a separator.
pub record IsSeparatorBy (matched : List Pcr) (event : LogEvent) (alg : Alg) : Type 0 where
  pub answers : is_answering matched alg settings_register ≡ true
  pub separator : MayBeSeparator alg event

-- The event may be a separator by some bank that answers.
abbrev pub MayBeSeparatorIn : List Pcr → LogEvent → Type 0
MayBeSeparatorIn matched event = (alg : Alg) × IsSeparatorBy matched event alg

-- Whether the bank does not answer for settings, or in it the event's data is measured, or the variable's value.
abbrev pub allows_variable : List Pcr → LogEvent → Alg → Bool
allows_variable matched event alg = not (is_answering matched alg settings_register) || (is_measured alg event Whole || is_measured alg event Value)

-- Whether the event's data is a boot variable, and is measured so in each bank that answers.
abbrev pub is_told_variable : List Pcr → LogEvent → Bool
is_told_variable matched event =
    list_all (λ alg. allows_variable matched event alg) all_algs && option_map_or is_boot_variable (variable_in event.payload) false

abbrev pub told_variable : Form → List Pcr → ℕ → LogEvent → List ℕ
told_variable form matched number event = if is_told_variable matched event then rendered form (variable_cell number event) else []

-- The boot variables of the register of settings are told, up to its first event that may be a separator.
abbrev pub IsSettingLine : Form → List Pcr → ℕ → LogEvent → Bool → List ℕ → Type 0
IsSettingLine form matched number event goes text =
    (MayBeSeparatorIn matched event × Are goes text (false, []))
    ⊎ ((MayBeSeparatorIn matched event → ⊥) × Are goes text (true, told_variable form matched number event))

abbrev pub IsLineIf : Bool → Type 0 → Bool → List ℕ → Type 0
IsLineIf true IsLine goes text = IsLine
IsLineIf false IsLine goes text = Are goes text (true, [])

abbrev pub IsVariableLine : Form → List Pcr → ℕ → LogEvent → Bool → List ℕ → Type 0
IsVariableLine form matched number event goes text =
    IsLineIf (is_extended_into settings_register event) (IsSettingLine form matched number event goes text) goes text

-- ---- all

abbrev pub IsEventLine : BootQuestion → Form → List Pcr → ℕ → LogEvent → Bool → List ℕ → Type 0
IsEventLine Images form matched number event goes text = IsImageLine form matched number event goes text
IsEventLine (Commands register) form matched number event goes text = IsCommandLine register form matched number event goes text
IsEventLine Variables form matched number event goes text = IsVariableLine form matched number event goes text
IsEventLine Claims form matched number event goes text = IsClaimLine form number event goes text
