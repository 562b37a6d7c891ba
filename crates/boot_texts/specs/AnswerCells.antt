-- The cells of the answers. The members and words are this project's choice.
use Rattle.std.specs.Prelude.{ℕ, if◌then◌else◌, List, [], ◌∷◌, ◌++◌, codes, Option, Some, None}
use Rattle.json.specs.Json.{Json}
use Rattle.pcr_banks.specs.declared.alg.Alg.{Alg}
use Rattle.pcr_banks.specs.declared.sets.PerBank.{PerBank}
use Rattle.pcr_banks.specs.Names.{all_algs, digest_in, name_of}
use Rattle.boot_log.specs.Names.{LogEvent}
use Rattle.event_data.specs.Names.{Content, content_in}
use Rattle.measured_data.specs.declared.confirmed.Pcr.{Pcr}
use Rattle.measured_data.specs.Confirming.{is_answering}
use Rattle.boot_answers.specs.declared.policies.ImaPolicy.{ImaPolicy}
use Rattle.boot_answers.specs.declared.policies.ImaPolicy.TheVariants as policies
use Rattle.boot_answers.specs.declared.secure_boot_state.SecureBoot.{SecureBoot}
use Rattle.boot_answers.specs.declared.secure_boot_state.SecureBoot.TheVariants.{On, Off, Unknown}
use Rattle.boot_answers.specs.Commands.{CommandSaid, grub, wide}
use Rattle.boot_answers.specs.FirmwareVersion.{version_type}
use Rattle.boot_answers.specs.Images.{image_register}
use Rattle.cells.specs.Cells.{Cell, each, hex, if_some, in_order, nothing, number, object_at, text, word, word_member}
use Rattle.cells.specs.Values.{Member, line_of, object_of, shown_member}
use Rattle.event_lines.specs.ContentJson.{command_word, content_json, event_content_json}
use Rattle.event_lines.specs.ContentTexts.{wide_member}
use Rattle.event_lines.specs.RegisterNames.{register_cell}
use Rattle.event_lines.specs.SteeringTexts.{unsteered, value_cell}

-- An answer in one word.
abbrev pub word_cell : List ℕ → List ℕ → Cell Member
word_cell name said = in_order (text name ∷ word (codes " ") name said ∷ text (codes "\n") ∷ [])

-- ---- Secure Boot, and the firmware's version

abbrev pub state_word : SecureBoot → List ℕ
state_word On = codes "on"
state_word Off = codes "off"
state_word Unknown = codes "unknown"

abbrev pub secure_boot_cell : SecureBoot → Cell Member
secure_boot_cell state = word_cell (codes "secure_boot") (state_word state)

abbrev pub version_cell : Option Content → Cell Member
version_cell None = word_cell (codes "firmware_version") (codes "unknown")
version_cell (Some content) = value_cell (codes "firmware_version ") (codes "firmware_version") (content_json version_type content)

-- ---- images

-- The event's digest in the bank, if the bank answers for images.
abbrev pub answered_digest : List Pcr → PerBank → Alg → Option (List ℕ)
answered_digest matched digests alg = if is_answering matched alg image_register then digest_in digests alg else None

abbrev pub digest_cell : Alg → List ℕ → Cell Member
digest_cell alg bytes = in_order (text (name_of alg) ∷ hex (codes " ") (name_of alg) bytes ∷ text (codes " ") ∷ [])

-- The digests in the banks that answer, in the order of algorithms.
abbrev pub answered_cell : List Pcr → PerBank → Cell Member
answered_cell matched digests = each (λ alg. if_some (answered_digest matched digests alg) (digest_cell alg)) all_algs

-- The event with this number as an image: its digests, and what its data claims.
abbrev pub image_cell : List Pcr → ℕ → LogEvent → Cell Member
image_cell matched n event = in_order (
    number (codes "image ") (codes "image") n
    ∷ text (codes " ")
    ∷ object_at (codes "digests") (answered_cell matched event.digests)
    ∷ value_cell (codes "claimed ") (codes "claimed") (event_content_json event)
    ∷ [])

-- ---- commands

-- The text; in hexadecimal where it is none.
abbrev pub text_member : CommandSaid → Member
text_member (grub command) = shown_member (codes "text") (codes "text_hex") command.text
text_member (wide said) = wide_member (codes "text") (codes "text_hex") said

-- The text: in text it is an object of its own.
abbrev pub said_cell : CommandSaid → Cell Member
said_cell said = record {
  text = codes " " ++ unsteered (line_of (object_of (text_member said ∷ [])));
  json = text_member said ∷ [];
}

-- The kind of a command of GRUB, which is claimed.
abbrev pub kind_cell : CommandSaid → Cell Member
kind_cell (grub command) = object_at (codes "claimed") (word_member (codes "kind") (command_word command.kind))
kind_cell (wide said) = nothing

-- The text that the event with this number tells.
abbrev pub command_cell : ℕ → ℕ → CommandSaid → Cell Member
command_cell register n said = in_order (
    number (codes "command ") (codes "command") n
    ∷ register_cell (codes " ") register
    ∷ said_cell said
    ∷ kind_cell said
    ∷ [])

-- The event with this number tells no text, so none is told after it. Where no bank answers for the register there is none.
abbrev pub unknown_command_cell : ℕ → Option ℕ → Cell Member
unknown_command_cell register event = in_order (
    word (codes "command ") (codes "command") (codes "unknown")
    ∷ register_cell (codes " ") register
    ∷ if_some event (number (codes " ") (codes "event"))
    ∷ text (codes "\n")
    ∷ [])

-- ---- what the told texts ask

-- What is asked, in one word.
abbrev pub policy_word : ImaPolicy → List ℕ
policy_word (policies.Asked event) = codes "asked"
policy_word (policies.Possible event) = codes "possible"
policy_word policies.Unknown = codes "unknown"

-- The number of the event that asks.
abbrev pub policy_event : ImaPolicy → Option ℕ
policy_event (policies.Asked event) = Some event
policy_event (policies.Possible event) = Some event
policy_event policies.Unknown = None

abbrev pub policy_cell : ImaPolicy → Cell Member
policy_cell policy = in_order (
    word (codes "ima_policy ") (codes "ima_policy") (policy_word policy)
    ∷ if_some (policy_event policy) (number (codes " ") (codes "event"))
    ∷ text (codes "\n")
    ∷ [])

-- ---- boot variables

-- EV_EFI_VARIABLE_BOOT (PC Client Platform Firmware Profile).
abbrev pub boot_variable_type : ℕ
boot_variable_type = 0x80000002

-- What an event's data says as a variable, whatever the event's type: the type was not measured.
abbrev pub variable_content_json : LogEvent → Json
variable_content_json event = content_json boot_variable_type (content_in boot_variable_type event.payload)

-- The event with this number as a boot variable: what its data says.
abbrev pub variable_cell : ℕ → LogEvent → Cell Member
variable_cell n event = in_order (
    number (codes "boot_variable ") (codes "boot_variable") n
    ∷ value_cell (codes " ") (codes "content") (variable_content_json event)
    ∷ [])
