-- What an event's data says, as JSON: an object with one member, which is named by the data's form. The members and their order are this
-- project's choice.
use Rattle.std.specs.Prelude.{⊤, ℕ, true, List, [], ◌∷◌, ◌++◌, codes, length, map, Option, Some, None}
use Rattle.json.specs.Json.{Json, boolean, string}
use Rattle.boot_log.specs.Names.{LogEvent}
use Rattle.event_data.specs.declared.command.CommandKind.{CommandKind}
use Rattle.event_data.specs.declared.command.CommandKind.TheVariants.{Grub, Kernel, Module, RedHatGrub, RedHatKernel}
use Rattle.event_data.specs.Names.{BlobData, CommandData, Content, GptData, HandoffData, ImageData, PartitionData, TableData, TaggedData, content_in, table_name, tables_of, text_in, value_in}
use Rattle.event_data.specs.EventForms as forms
use Rattle.event_lines.specs.ContentTexts.{address_json, guid_json, path_member, rest_members, text_or_hex, wide_member}
use Rattle.cells.specs.Values.{IsCount, Member, array_of, number_json, object_of, shown_member}
use Rattle.event_lines.specs.ValueJson.{IsCountedValue}
use Rattle.event_lines.specs.VariableJson.{variable_json}

-- ---- what boot loaders measured

abbrev pub command_word : CommandKind → List ℕ
command_word Grub = codes "grub"
command_word Kernel = codes "kernel"
command_word Module = codes "module"
command_word RedHatGrub = codes "grub"
command_word RedHatKernel = codes "kernel"

-- A command: its kind, and its text.
abbrev pub command_json : CommandData → Json
command_json command =
    object_of ((codes "kind", string (command_word command.kind)) ∷ shown_member (codes "text") (codes "text_hex") command.text ∷ [])

-- ---- what the firmware measured

-- An image: where it was loaded, its size, the address that it was linked for, its device path, and the bytes behind it.
abbrev pub image_json : ImageData → List ℕ → Json
image_json image rest = object_of (
    (codes "location", address_json image.location)
    ∷ (codes "size", address_json image.size)
    ∷ (codes "link_address", address_json image.link_address)
    ∷ path_member image.path
    ∷ rest_members rest)

-- A partition: its type, its own GUID, its first and last logical block, its attributes, and its name.
abbrev pub partition_json : PartitionData → Json
partition_json partition = object_of (
    (codes "type", guid_json partition.kind)
    ∷ (codes "guid", guid_json partition.guid)
    ∷ (codes "first", address_json partition.first)
    ∷ (codes "last", address_json partition.last)
    ∷ (codes "attributes", address_json partition.attributes)
    ∷ wide_member (codes "name") (codes "name_hex") partition.name
    ∷ [])

-- A disk's table of partitions: the disk's GUID, and the partitions.
abbrev pub gpt_json : GptData → Json
gpt_json gpt = object_of ((codes "disk", guid_json gpt.disk) ∷ (codes "partitions", array_of (map partition_json gpt.partitions)) ∷ [])

abbrev pub description_members : Option (List ℕ) → List Member
description_members None = []
description_members (Some description) = shown_member (codes "description") (codes "description_hex") description ∷ []

-- A blob of firmware: what it is called, if that is told, where it was, and its length.
abbrev pub blob_json : BlobData → Json
blob_json blob = object_of (
    description_members blob.description
    ++ (codes "base", address_json blob.base) ∷ (codes "length", address_json blob.size) ∷ [])

abbrev pub name_members : Option (List ℕ) → List Member
name_members None = []
name_members (Some name) = (codes "name", string name) ∷ []

-- A vendor table: its GUID, its name, if one is known, and where it was.
abbrev pub table_json : TableData → Json
table_json table = object_of (
    (codes "guid", guid_json table.vendor) ∷ (name_members (table_name table.vendor) ++ (codes "address", address_json table.address) ∷ []))

-- Vendor tables that firmware hands over: what they are called, if that is told, and the tables.
abbrev pub handoff_json : HandoffData → Json
handoff_json handoff = object_of (
    description_members handoff.description ++ (codes "tables", array_of (map table_json (tables_of handoff))) ∷ [])

-- A tagged event: the tag, and the data, as a text if it is one.
abbrev pub tagged_json : TaggedData → Json
tagged_json tagged =
    object_of ((codes "id", number_json tagged.id) ∷ text_or_hex (codes "text") (codes "data") tagged.payload (text_in tagged.payload) ∷ [])

-- ---- data of any form

-- What the data of an event of this type says.
abbrev pub content_members : ℕ → Content → List Member
content_members kind (forms.separator value) = (codes "separator", number_json value) ∷ []
content_members kind (forms.text value) = (codes "text", string value) ∷ []
content_members kind (forms.wide_text value) = wide_member (codes "text") (codes "text_hex") value ∷ []
content_members kind (forms.guid value) = (codes "guid", guid_json value) ∷ []
content_members kind (forms.command value) = (codes "command", command_json value) ∷ []
content_members kind (forms.variable value rest) = (codes "variable", variable_json kind value rest) ∷ []
content_members kind (forms.image value rest) = (codes "image", image_json value rest) ∷ []
content_members kind (forms.gpt value) = (codes "gpt", gpt_json value) ∷ []
content_members kind (forms.blob value) = (codes "blob", blob_json value) ∷ []
content_members kind (forms.tagged value) = (codes "tagged", tagged_json value) ∷ []
content_members kind (forms.locality value) = (codes "locality", number_json value) ∷ []
content_members kind (forms.technology value) = (codes "technology", number_json value) ∷ []
content_members kind (forms.handoff value) = (codes "handoff", handoff_json value) ∷ []
content_members kind (forms.unknown bytes) = (codes "unknown", boolean true) ∷ []

abbrev pub content_json : ℕ → Content → Json
content_json kind content = object_of (content_members kind content)

-- What an event's data says.
abbrev pub event_content_json : LogEvent → Json
event_content_json event = content_json event.kind (content_in event.kind event.payload)

-- The numbers that the data tells as those of JSON fit, and so do those of its values that are told briefly.
abbrev pub IsCountedContent : ℕ → Content → Type 0
IsCountedContent kind (forms.separator value) = IsCount value
IsCountedContent kind (forms.variable value rest) = IsCount (length value.value) × IsCountedValue (value_in kind value)
IsCountedContent kind (forms.tagged value) = IsCount value.id × IsCount (length value.payload)
IsCountedContent kind (forms.locality value) = IsCount value
IsCountedContent kind (forms.technology value) = IsCount value
IsCountedContent kind content = ⊤
