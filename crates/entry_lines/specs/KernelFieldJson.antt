-- The fields of an entry with one of the kernel's other templates, as JSON. The members and their order are this project's choice.
use Rattle.std.specs.Prelude.{ℕ, ◌^◌, nat_lt, if◌then◌else◌, List, [], ◌∷◌, codes, flat_map, Option, Some, None}
use Rattle.std.specs.Int.{w16, w32, from_le_bytes}
use Rattle.json.specs.Json.{Json, null, string}
use Rattle.pcr_banks.specs.declared.alg.Alg.{Alg}
use Rattle.pcr_banks.specs.Names.{name_of}
use Rattle.ima_list.specs.declared.kernel_field.DigestType.{DigestType}
use Rattle.ima_list.specs.declared.kernel_field.KernelField.{KernelField}
use Rattle.ima_list.specs.declared.kernel_field.KernelField.TheVariants as kinds
use Rattle.ima_list.specs.Names.{FieldData, digest_in_field, path_in_field, type_prefix, typed_digest_in}
use Rattle.cells.specs.Values.{Member, array_of, hex_json, number_json, object_of, shown_member}

-- A digest, under two names: its algorithm, and its bytes.
abbrev pub digest_members : List ℕ → List ℕ → Option (Alg × List ℕ) → List Member
digest_members alg_name name (Some file) = (alg_name, string (name_of file.0)) ∷ (name, hex_json file.1) ∷ []
digest_members alg_name name None = []

-- A digest, and what it is of.
abbrev pub typed_members : Option (DigestType × (Alg × List ℕ)) → List Member
typed_members (Some file) =
    (codes "digest_type", string (type_prefix file.0)) ∷ digest_members (codes "algorithm") (codes "digest") (Some file.1)
typed_members None = []

abbrev pub text_or_all : Option (List ℕ) → List ℕ → List ℕ
text_or_all (Some text) content = text
text_or_all None content = content

-- A text that ends with its only NUL, without that; any other content is shown whole.
abbrev pub ended : List ℕ → List ℕ
ended content = text_or_all (path_in_field content) content

-- A number of a field of four bytes or fewer.
abbrev pub small_json : ℕ → Json
small_json n = if nat_lt n (2 ^ 32) then number_json n else null

-- The number in a field of four bytes, or of two; nothing of one that is empty.
abbrev pub number32_members : List ℕ → List ℕ → List Member
number32_members name (a ∷ b ∷ c ∷ d ∷ []) = (name, small_json (from_le_bytes w32 (a ∷ b ∷ c ∷ d ∷ []))) ∷ []
number32_members name content = []

abbrev pub number16_members : List ℕ → List ℕ → List Member
number16_members name (a ∷ b ∷ []) = (name, small_json (from_le_bytes w16 (a ∷ b ∷ []))) ∷ []
number16_members name content = []

-- The numbers of four bytes each in bytes.
unfoldable pub numbers_in : List ℕ → List Json
numbers_in (a ∷ b ∷ c ∷ d ∷ rest) = small_json (from_le_bytes w32 (a ∷ b ∷ c ∷ d ∷ [])) ∷ numbers_in rest
numbers_in bytes = []

-- The members of a field of this kind.
abbrev pub field_members : KernelField → List ℕ → List Member
field_members kinds.NamedDigest content = digest_members (codes "algorithm") (codes "digest") (digest_in_field content)
field_members kinds.TypedDigest content = typed_members (typed_digest_in content)
field_members kinds.Path content = shown_member (codes "path") (codes "path_hex") (ended content) ∷ []
field_members kinds.Signature content = (codes "signature", hex_json content) ∷ []
field_members kinds.ModsigDigest content = digest_members (codes "modsig_algorithm") (codes "modsig_digest") (digest_in_field content)
field_members kinds.Modsig content = (codes "modsig", hex_json content) ∷ []
field_members kinds.Buffer content = (codes "buffer", hex_json content) ∷ []
field_members kinds.EvmSignature content = (codes "evm_signature", hex_json content) ∷ []
field_members kinds.XattrNames content = shown_member (codes "xattr_names") (codes "xattr_names_hex") (ended content) ∷ []
field_members kinds.XattrLengths content = (codes "xattr_lengths", array_of (numbers_in content)) ∷ []
field_members kinds.XattrValues content = (codes "xattr_values", hex_json content) ∷ []
field_members kinds.User content = number32_members (codes "uid") content
field_members kinds.Group content = number32_members (codes "gid") content
field_members kinds.Mode content = number16_members (codes "mode") content

-- The members of all fields, in their order.
abbrev pub fields_members : List FieldData → List Member
fields_members fields = flat_map (λ field. field_members field.kind field.content) fields

abbrev pub fields_json : List FieldData → Json
fields_json fields = object_of (fields_members fields)
