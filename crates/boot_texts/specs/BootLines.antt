-- The lines of all answers on a boot.
use Rattle.std.specs.Prelude.{◌≡◌, ℕ, List, [], ◌++◌, codes, Option, None, Some}
use Rattle.boot_log.specs.Names.{LogEvent}
use Rattle.event_data.specs.Names.{Content}
use Rattle.measured_data.specs.declared.confirmed.Pcr.{Pcr}
use Rattle.measured_data.specs.Measuring.{settings_register}
use Rattle.boot_answers.specs.declared.policies.ImaPolicy.{ImaPolicy}
use Rattle.boot_answers.specs.declared.secure_boot_state.SecureBoot.{SecureBoot}
use Rattle.boot_answers.specs.FirmwareVersion.{IsFirmwareVersion, IsOfVersion}
use Rattle.boot_answers.specs.Images.{image_register}
use Rattle.boot_answers.specs.Policies.{IsImaPolicy}
use Rattle.boot_answers.specs.SecureBoot.{IsSecureBoot}
use Rattle.cells.specs.declared.writer.Form.{Form}
use Rattle.boot_texts.specs.declared.boot_lines.BootQuestion.{BootQuestion}
use Rattle.boot_texts.specs.declared.boot_lines.BootQuestion.TheVariants.{Claims, Images, Commands, Variables}
use Rattle.boot_texts.specs.Answering.{Chosen, is_answered}
use Rattle.cells.specs.Cells.{rendered}
use Rattle.boot_texts.specs.AnswerCells.{policy_cell, secure_boot_cell, unknown_command_cell, version_cell, word_cell}
use Rattle.boot_texts.specs.Telling.{AreEventLines, IsEventLine}

-- The text has the lines of the events for the question, if this register is answered for; otherwise it is the other.
abbrev pub AreQuestionLines : BootQuestion → ℕ → List ℕ → Form → List Pcr → List LogEvent → List ℕ → Type 0
AreQuestionLines question register other form matched events text =
    Chosen (is_answered matched register events) (AreEventLines (IsEventLine question form matched) 1 events text) (text ≡ other)

abbrev pub AreImageLines : Form → List Pcr → List LogEvent → List ℕ → Type 0
AreImageLines form = AreQuestionLines Images image_register (rendered form (word_cell (codes "image") (codes "unknown"))) form

abbrev pub AreCommandLines : ℕ → Form → List Pcr → List LogEvent → List ℕ → Type 0
AreCommandLines register form = AreQuestionLines (Commands register) register (rendered form (unknown_command_cell register None)) form

abbrev pub AreVariableLines : Form → List Pcr → List LogEvent → List ℕ → Type 0
AreVariableLines form = AreQuestionLines Variables settings_register (rendered form (word_cell (codes "boot_variable") (codes "unknown"))) form

-- The lines of all answers, in this order, of a log with these events, and the registers that match.
pub record AreBootLines (form : Form) (matched : List Pcr) (events : List LogEvent) (text : List ℕ) : Type 0 where
  pub state : SecureBoot
  pub is_state : IsSecureBoot matched events state
  pub version : Option Content
  pub is_version : IsOfVersion (IsFirmwareVersion matched events) version
  pub images : List ℕ
  pub are_images : AreImageLines form matched events images
  pub commands : List ℕ
  pub are_commands : AreCommandLines 8 form matched events commands
  pub more_commands : List ℕ
  pub are_more_commands : AreCommandLines 12 form matched events more_commands
  pub policy : ImaPolicy
  pub is_policy : IsImaPolicy matched events policy
  pub variables : List ℕ
  pub are_variables : AreVariableLines form matched events variables
  pub text_is : text ≡ rendered form (secure_boot_cell state) ++ (rendered form (version_cell version)
      ++ (images ++ (commands ++ (more_commands ++ (rendered form (policy_cell policy) ++ variables)))))

-- ---- what nothing confirms

-- A line that all is claimed, and those of what each event claims, in the order of the log.
abbrev pub AreClaimLines : Form → List LogEvent → List ℕ → Type 0
AreClaimLines form events text =
    (claims : List ℕ) × AreEventLines (IsEventLine Claims form []) 1 events claims
    × (text ≡ rendered form (word_cell (codes "claimed") (codes "all")) ++ claims)

-- The lines of all answers by the registers that match; of all claims, if none were compared.
abbrev pub AreBootTexts : Form → Option (List Pcr) → List LogEvent → List ℕ → Type 0
AreBootTexts form None events text = AreClaimLines form events text
AreBootTexts form (Some matched) events text = AreBootLines form matched events text
