-- What an event's data says in a text for people: of long bytes their beginning, and how many they are. The members and their order are this
-- project's choice.
use Rattle.std.specs.Prelude.{⊤, ℕ, nat_le, ◌==◌, if◌then◌else◌, List, [], ◌∷◌, ◌++◌, codes, length, take, Option, Some, None}
use Rattle.json.specs.Json.{Json, string}
use Rattle.event_data.specs.Names.{Content, ImageData, LoadOptionData, SignatureData, TaggedData, ValueSays, VariableData, text_in, value_in}
use Rattle.event_data.specs.EventForms as forms
use Rattle.event_data.specs.Values as values
use Rattle.cells.specs.Cells.{Cell}
use Rattle.cells.specs.Values.{IsCount, Member, hex_json, line_of, number_json, object_of}
use Rattle.event_lines.specs.Certificates.{certificate_member}
use Rattle.event_lines.specs.ContentJson.{content_json, content_members}
use Rattle.event_lines.specs.ContentTexts.{address_json, guid_json, path_member, wide_member}
use Rattle.event_lines.specs.SteeringTexts.{unsteered}
use Rattle.event_lines.specs.ValueJson.{value_members}

-- ---- bytes

-- The first 32 bytes, and how many there are.
abbrev pub beginning_json : List ℕ → Json
beginning_json bytes = object_of ((codes "begins", hex_json (take 32 bytes)) ∷ (codes "size", number_json (length bytes)) ∷ [])

-- Bytes in hexadecimal; of more than 32 their beginning.
abbrev pub brief_json : List ℕ → Json
brief_json bytes = if nat_le (length bytes) 32 then hex_json bytes else beginning_json bytes

-- The bytes behind a form, if there are any.
abbrev pub brief_rest_members : List ℕ → List Member
brief_rest_members rest = if length rest == 0 then [] else (codes "rest", brief_json rest) ∷ []

-- ---- variables

abbrev pub brief_option_json : LoadOptionData → Json
brief_option_json option = object_of (
    (codes "attributes", number_json option.attributes)
    ∷ wide_member (codes "description") (codes "description_hex") option.description
    ∷ path_member option.path
    ∷ (codes "data", brief_json option.optional_data)
    ∷ [])

abbrev pub brief_signature_json : SignatureData → Json
brief_signature_json signature = object_of (
    (codes "owner", guid_json signature.owner) ∷ (codes "data", brief_json signature.payload) ∷ certificate_member signature.payload)

abbrev pub brief_value_members : ValueSays → List Member
brief_value_members (values.option value) = (codes "option", brief_option_json value) ∷ []
brief_value_members (values.signature value) = (codes "signature", brief_signature_json value) ∷ []
brief_value_members says = value_members says

abbrev pub brief_variable_json : ℕ → VariableData → List ℕ → Json
brief_variable_json kind variable rest = object_of (
    (codes "guid", guid_json variable.guid)
    ∷ wide_member (codes "name") (codes "name_hex") variable.name
    ∷ (codes "value", brief_json variable.value)
    ∷ (brief_rest_members rest ++ brief_value_members (value_in kind variable)))

-- ---- images

abbrev pub brief_image_json : ImageData → List ℕ → Json
brief_image_json image rest = object_of (
    (codes "location", address_json image.location)
    ∷ (codes "size", address_json image.size)
    ∷ (codes "link_address", address_json image.link_address)
    ∷ path_member image.path
    ∷ brief_rest_members rest)

-- ---- tagged events

abbrev pub brief_payload_member : List ℕ → Option (List ℕ) → Member
brief_payload_member payload (Some text) = (codes "text", string text)
brief_payload_member payload None = (codes "data", brief_json payload)

abbrev pub brief_tagged_json : TaggedData → Json
brief_tagged_json tagged =
    object_of ((codes "id", number_json tagged.id) ∷ brief_payload_member tagged.payload (text_in tagged.payload) ∷ [])

-- ---- data of any form

abbrev pub brief_members : ℕ → Content → List Member
brief_members kind (forms.variable value rest) = (codes "variable", brief_variable_json kind value rest) ∷ []
brief_members kind (forms.image value rest) = (codes "image", brief_image_json value rest) ∷ []
brief_members kind (forms.tagged value) = (codes "tagged", brief_tagged_json value) ∷ []
brief_members kind content = content_members kind content

abbrev pub brief_content_json : ℕ → Content → Json
brief_content_json kind content = object_of (brief_members kind content)

-- The bytes behind the form are as many as a number tells.
abbrev pub IsCountedRest : Content → Type 0
IsCountedRest (forms.variable value rest) = IsCount (length rest)
IsCountedRest (forms.image value rest) = IsCount (length rest)
IsCountedRest content = ⊤

-- What the data of an event of this type says. Text has it on a line of its own, after two spaces, briefly; JSON has all of it.
abbrev pub explained_cell : ℕ → Content → Cell Member
explained_cell kind content = record {
  text = codes "\n  " ++ unsteered (line_of (brief_content_json kind content));
  json = (codes "content", content_json kind content) ∷ [];
}
