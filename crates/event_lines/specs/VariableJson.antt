-- A UEFI variable as JSON. The members and their order are this project's choice.
use Rattle.std.specs.Prelude.{ℕ, List, ◌∷◌, ◌++◌, codes}
use Rattle.json.specs.Json.{Json}
use Rattle.event_data.specs.Names.{VariableData, value_in}
use Rattle.event_lines.specs.ContentTexts.{guid_json, rest_members, wide_member}
use Rattle.cells.specs.Values.{hex_json, object_of}
use Rattle.event_lines.specs.ValueJson.{value_members}

-- A variable that an event of this type has: the vendor's GUID, the name, the value, the bytes behind the variable, and what the value says.
abbrev pub variable_json : ℕ → VariableData → List ℕ → Json
variable_json kind variable rest = object_of (
    (codes "guid", guid_json variable.guid)
    ∷ wide_member (codes "name") (codes "name_hex") variable.name
    ∷ (codes "value", hex_json variable.value)
    ∷ (rest_members rest ++ value_members (value_in kind variable)))
