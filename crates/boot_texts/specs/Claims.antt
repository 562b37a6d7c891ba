-- What the events of a log claim of a boot. It is what they say, by type and data, of each of them, and nothing confirms it: whoever wrote the log
-- chose it. The members and words are this project's choice.
use Rattle.std.specs.Prelude.{◌≡◌, ℕ, ◌==◌, ◌&&◌, ◌||◌, Bool, true, if◌then◌else◌, List, [], ◌∷◌, ◌++◌, bytes_eq, codes, Option, Some, None}
use Rattle.pcr_banks.specs.declared.sets.PerBank.{PerBank}
use Rattle.pcr_banks.specs.Names.{all_algs, digest_in}
use Rattle.boot_log.specs.Names.{LogEvent}
use Rattle.event_data.specs.EventForms as forms
use Rattle.event_data.specs.Names.{Content, VariableData, content_in}
use Rattle.boot_answers.specs.declared.secure_boot_state.SecureBoot.{SecureBoot}
use Rattle.boot_answers.specs.declared.secure_boot_state.SecureBoot.TheVariants.{On, Off}
use Rattle.boot_answers.specs.FirmwareVersion.{version_type}
use Rattle.boot_answers.specs.Variables.{global_guid, wide}
use Rattle.cells.specs.declared.writer.Form.{Form}
use Rattle.cells.specs.Cells.{Cell, each, if_some, in_order, number, object_at, rendered, text, word}
use Rattle.cells.specs.Values.{Member}
use Rattle.event_lines.specs.ContentJson.{event_content_json}
use Rattle.event_lines.specs.RegisterNames.{register_cell}
use Rattle.event_lines.specs.SteeringTexts.{value_cell}
use Rattle.boot_texts.specs.declared.claims.Claim.{Claim}
use Rattle.boot_texts.specs.declared.claims.Claim.TheVariants as claims
use Rattle.boot_texts.specs.AnswerCells.{digest_cell, state_word}
use Rattle.boot_texts.specs.Boots.{is_boot_variable}

-- ---- what an event claims

-- EV_IPL, the type by which boot loaders measure (PC Client Platform Firmware Profile, section 10.4.1).
abbrev pub ipl_type : ℕ
ipl_type = 0x0000000d

-- The registers of GRUB's commands and of systemd-stub's command line.
abbrev pub is_command_register : ℕ → Bool
is_command_register register = (register == 8) || (register == 12)

-- Whether the variable is SecureBoot (UEFI 2.10, section 3.3).
abbrev pub is_secure_boot : VariableData → Bool
is_secure_boot variable = bytes_eq variable.guid global_guid && bytes_eq variable.name (wide (codes "SecureBoot"))

-- What a value of SecureBoot claims: 1 that it was on, 0 that it was not, any other nothing.
abbrev pub state_claim : List ℕ → Option Claim
state_claim value =
    if bytes_eq value (1 ∷ []) then Some (claims.SecureBoot On)
    else if bytes_eq value (0 ∷ []) then Some (claims.SecureBoot Off)
    else None

abbrev pub variable_claim : VariableData → Option Claim
variable_claim variable =
    if is_secure_boot variable then state_claim variable.value
    else if is_boot_variable variable then Some claims.Variable
    else None

-- What known data of another form claims, by the event's type and register.
abbrev pub type_claim : ℕ → ℕ → Option Claim
type_claim kind register =
    if kind == version_type then Some claims.Version
    else if (kind == ipl_type) && is_command_register register then Some claims.Command
    else None

-- What an event claims whose data says this.
abbrev pub claim_in : ℕ → ℕ → Content → Option Claim
claim_in kind register (forms.unknown bytes) = None
claim_in kind register (forms.image value rest) = Some claims.Image
claim_in kind register (forms.variable value rest) = variable_claim value
claim_in kind register content = type_claim kind register

abbrev pub claim_of : LogEvent → Option Claim
claim_of event = claim_in event.kind event.register (content_in event.kind event.payload)

-- ---- its line

-- All digests that the event states, in the order of algorithms.
abbrev pub stated_cell : PerBank → Cell Member
stated_cell digests = each (λ alg. if_some (digest_in digests alg) (digest_cell alg)) all_algs

abbrev pub claimed_state_cell : SecureBoot → Cell Member
claimed_state_cell state = in_order (word (codes " secure_boot ") (codes "secure_boot") (state_word state) ∷ text (codes "\n") ∷ [])

abbrev pub claim_said_cell : LogEvent → Claim → Cell Member
claim_said_cell event (claims.SecureBoot state) = claimed_state_cell state
claim_said_cell event claims.Version = value_cell (codes " firmware_version ") (codes "firmware_version") (event_content_json event)
claim_said_cell event claims.Image = in_order (
    text (codes " image ")
    ∷ object_at (codes "digests") (stated_cell event.digests)
    ∷ value_cell [] (codes "image") (event_content_json event)
    ∷ [])
claim_said_cell event claims.Command = in_order (
    text (codes " command")
    ∷ register_cell (codes " ") event.register
    ∷ value_cell (codes " ") (codes "command") (event_content_json event)
    ∷ [])
claim_said_cell event claims.Variable = value_cell (codes " boot_variable ") (codes "boot_variable") (event_content_json event)

-- What the event with this number claims. The line begins with `claimed`, and in JSON all of it is within a member of this name: no answer does.
abbrev pub claim_cell : ℕ → LogEvent → Claim → Cell Member
claim_cell n event claim =
    object_at (codes "claimed") (in_order (number (codes "claimed ") (codes "event") n ∷ claim_said_cell event claim ∷ []))

abbrev pub claim_text : Form → ℕ → LogEvent → Option Claim → List ℕ
claim_text form n event None = []
claim_text form n event (Some claim) = rendered form (claim_cell n event claim)

-- The line of the event with this number, if it claims something.
abbrev pub claim_line : Form → ℕ → LogEvent → List ℕ
claim_line form n event = claim_text form n event (claim_of event)

-- Each event that claims something has its line: no event ends them.
abbrev pub IsClaimLine : Form → ℕ → LogEvent → Bool → List ℕ → Type 0
IsClaimLine form n event goes shown = (goes ≡ true) × (shown ≡ claim_line form n event)
