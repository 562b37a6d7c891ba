-- An entry of a measurement list as JSON. The members and their order are this project's choice.
use Rattle.std.specs.Prelude.{ℕ, ◌||◌, Bool, List, [], ◌∷◌, ◌++◌, codes, bytes_eq, Option, Some, None, option_map, ◌≡◌}
use Rattle.json.specs.Json.{Json, boolean, string}
use Rattle.pcr_banks.specs.declared.alg.Alg.TheVariants.{Sha1}
use Rattle.pcr_banks.specs.Names.{hash_of, name_of}
use Rattle.ima_list.specs.declared.template.Template.{Template}
use Rattle.ima_list.specs.declared.template.Template.TheVariants.{ImaSig}
use Rattle.ima_list.specs.Names.{FieldData, FileFields, HasFields, IsEntry, ListEntry, fields_of, hashed_bytes, is_violation, kernel_fields_of, template_named}
use Rattle.cells.specs.Values.{Member, hex_json, number_json, object_of, optional, shown_member}
use Rattle.entry_lines.specs.KernelFieldJson.{fields_json}
use Rattle.hex.specs.Hex.{IsBytes}

-- Whether the entry is genuine: a law says that this is the test of `IsGenuine`.
abbrev pub is_genuine : ListEntry → Bool
is_genuine entry = is_violation entry || bytes_eq entry.digest (hash_of Sha1 (hashed_bytes entry))

-- The signature, of the one template that has a field for it.
abbrev pub signature_members : Option Template → List ℕ → List Member
signature_members (Some ImaSig) sig = (codes "signature", hex_json sig) ∷ []
signature_members template sig = []

-- What an entry says of a file; the payload of one that has no such fields, and what its fields say where it has those of another
-- of the kernel's templates.
abbrev pub content_members : Option Template → Option FileFields → Option (List FieldData) → List ℕ → List Member
content_members template (Some fields) others payload =
    (codes "algorithm", string (name_of fields.alg))
    ∷ (codes "digest", hex_json fields.digest)
    ∷ shown_member (codes "path") (codes "path_hex") fields.path
    ∷ signature_members template fields.sig
content_members template None others payload =
    (codes "payload", hex_json payload) ∷ optional (codes "fields") (option_map fields_json others)

-- The members that every entry has: its number, register, template and template digest, whether it is a violation, and whether it is
-- genuine.
abbrev pub head_members : ℕ → ListEntry → List Member
head_members number entry =
    (codes "entry", number_json number)
    ∷ (codes "register", number_json entry.register)
    ∷ shown_member (codes "template") (codes "template_hex") entry.name
    ∷ (codes "template_digest", hex_json entry.digest)
    ∷ (codes "violation", boolean (is_violation entry))
    ∷ (codes "genuine", boolean (is_genuine entry))
    ∷ []

-- The entry with this number; entries count from 0.
abbrev pub entry_json : ℕ → ListEntry → Json
entry_json number entry =
    object_of (head_members number entry ++ content_members (template_named entry.name) (fields_of entry) (kernel_fields_of entry) entry.payload)

-- How many entries a list has that was read to its end.
abbrev pub entry_count_json : ℕ → Json
entry_count_json entries = object_of ((codes "entries", number_json entries) ∷ [])

-- ---- what is known of an entry that code holds

-- The parts of the fields are bytes.
pub record HasBytes (fields : FileFields) : Type 0 where
  pub digest : IsBytes fields.digest
  pub path : IsBytes fields.path
  pub sig : IsBytes fields.sig

-- Its parts are bytes, as are those of its fields, which its payload is made of.
pub record IsKnown (entry : ListEntry) : Type 0 where
  pub is : IsEntry entry
  pub digest_bytes : IsBytes entry.digest
  pub name_bytes : IsBytes entry.name
  pub payload_bytes : IsBytes entry.payload
  pub fields : (fields : FileFields) → fields_of entry ≡ Some fields → HasFields entry fields × HasBytes fields
