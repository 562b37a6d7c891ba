-- What the value of a UEFI variable says, as JSON. The members and their order are this project's choice.
use Rattle.std.specs.Prelude.{⊤, ℕ, if◌then◌else◌, List, [], ◌∷◌, ◌++◌, bytes_eq, codes, length, map}
use Rattle.std.specs.Int.{w16, to_be_bytes}
use Rattle.std.specs.List.{AllByRecursion}
use Rattle.json.specs.Json.{Json, string}
use Rattle.event_data.specs.Names.{ListData, LoadOptionData, SignatureData, ValueSays, signatures_of}
use Rattle.event_data.specs.Values as values
use Rattle.event_lines.specs.Certificates.{certificate_json, certificate_member, certificates_member}
use Rattle.event_lines.specs.ContentTexts.{guid_json, path_member, wide_member}
use Rattle.cells.specs.Values.{IsCount, Member, array_of, hex_json, number_json, object_of}

-- The number of a load option, in four digits, as in the variable's name.
abbrev pub option_number_json : ℕ → Json
option_number_json number = hex_json (to_be_bytes w16 number)

-- A load option: its attributes, its description, its device path, and its optional data.
abbrev pub load_option_json : LoadOptionData → Json
load_option_json option = object_of (
    (codes "attributes", number_json option.attributes)
    ∷ wide_member (codes "description") (codes "description_hex") option.description
    ∷ path_member option.path
    ∷ (codes "data", hex_json option.optional_data)
    ∷ [])

-- The owner of a signature, if it is another than the one before it.
abbrev pub owner_values : List ℕ → List ℕ → List Json
owner_values before owner = if bytes_eq before owner then [] else guid_json owner ∷ []

-- The owners of signatures, each where it differs from the one before it.
abbrev pub owners_after : List ℕ → List SignatureData → List Json
owners_after before [] = []
owners_after before (first ∷ signatures) = owner_values before first.owner ++ owners_after first.owner signatures

-- A list of signatures: their type, how many there are, who added them, and the certificates that they are. No owner comes before the first.
abbrev pub list_json : ListData → Json
list_json list = object_of (
    (codes "type", guid_json list.kind)
    ∷ (codes "count", number_json (length (signatures_of list)))
    ∷ (codes "owners", array_of (owners_after [] (signatures_of list)))
    ∷ certificates_member list)

-- A signature: who added it, its data, and the certificate that this is.
abbrev pub signature_json : SignatureData → Json
signature_json signature = object_of (
    (codes "owner", guid_json signature.owner) ∷ (codes "data", hex_json signature.payload) ∷ certificate_member signature.payload)

-- What the value says; no member where its form is not known.
abbrev pub value_members : ValueSays → List Member
value_members (values.flag value) = (codes "flag", number_json value) ∷ []
value_members (values.order numbers) = (codes "order", array_of (map option_number_json numbers)) ∷ []
value_members (values.option value) = (codes "option", load_option_json value) ∷ []
value_members (values.lists lists) = (codes "lists", array_of (map list_json lists)) ∷ []
value_members (values.signature value) = (codes "signature", signature_json value) ∷ []
value_members (values.certificate value) = (codes "certificate", certificate_json value) ∷ []
value_members (values.level value) = (codes "level", string value) ∷ []
value_members values.unknown = []

-- There are as many signatures as a number tells, and each has as many bytes.
pub record IsCountedList (list : ListData) : Type 0 where
  pub count : IsCount (length (signatures_of list))
  pub sizes : AllByRecursion (λ signature. IsCount (length signature.payload)) (signatures_of list)

-- The numbers that the value tells as those of JSON fit.
abbrev pub IsCountedValue : ValueSays → Type 0
IsCountedValue (values.flag value) = IsCount value
IsCountedValue (values.option value) = IsCount value.attributes × IsCount (length value.optional_data)
IsCountedValue (values.lists lists) = AllByRecursion IsCountedList lists
IsCountedValue (values.signature value) = IsCount (length value.payload)
IsCountedValue (values.certificate value) = IsCount (length value)
IsCountedValue says = ⊤
