-- What entries of the kernel's other templates say, field by field (Linux kernel documentation, 'IMA Template Management Mechanism',
-- 'Supported Template Fields and Descriptors'). Entries with these templates are read, and never made.
use Rattle.std.specs.Prelude.{◌≡◌, ℕ, ◌^◌, ◌<◌, ◌%◌, ◌||◌, ◌&&◌, Bool, true, false, ◌==◌, is_some, if◌then◌else◌, List, [], ◌∷◌, ◌++◌, length, codes, map, flat_map, bytes_eq, Option, Some, None, option_map, option_and_then, Result}
use Rattle.std.specs.List.{AllByRecursion, list_all}
use Rattle.std.specs.Result.{result_ok}
use Rattle.pcr_banks.specs.declared.alg.Alg.{Alg}
use Rattle.byte_fields.specs.Reading.{sized_at}
use Rattle.byte_fields.specs.Spelling.{sized32}
use Rattle.ima_list.specs.declared.kernel_field.DigestType.{DigestType}
use Rattle.ima_list.specs.declared.kernel_field.DigestType.TheVariants.{Ima, Verity}
use Rattle.ima_list.specs.declared.kernel_field.KernelField.{KernelField}
use Rattle.ima_list.specs.declared.kernel_field.KernelField.TheVariants as kinds
use Rattle.ima_list.specs.declared.kernel_fields.FieldContent.{FieldContent}
use Rattle.ima_list.specs.declared.kernel_fields.KernelFields.{KernelFields}
use Rattle.ima_list.specs.FieldKinds.{after_prefix, digest_in_field, path_in_field}
use Rattle.ima_list.specs.ListEntry.{ListEntry}

-- ---- what a field of each kind may have

-- The name of a type of digests.
abbrev pub type_prefix : DigestType → List ℕ
type_prefix Ima = codes "ima"
type_prefix Verity = codes "verity"

-- The digest in a field d-ngv2 of this type: the type's name, a colon, and a field d-ng.
abbrev pub typed_digest_by : DigestType → List ℕ → Option (Alg × List ℕ)
typed_digest_by of field = option_and_then digest_in_field (option_and_then (after_prefix (codes ":")) (after_prefix (type_prefix of) field))

abbrev pub or_verity : Option (Alg × List ℕ) → Option (Alg × List ℕ) → Option (DigestType × (Alg × List ℕ))
or_verity (Some file) verity = Some (Ima, file)
or_verity None verity = option_map (λ file. (Verity, file)) verity

-- The type and the digest in a field d-ngv2.
abbrev pub typed_digest_in : List ℕ → Option (DigestType × (Alg × List ℕ))
typed_digest_in field = or_verity (typed_digest_by Ima field) (typed_digest_by Verity field)

-- Whether a field of this kind has such a content.
abbrev pub is_content : KernelField → List ℕ → Bool
is_content kinds.NamedDigest content = is_some (digest_in_field content)
is_content kinds.TypedDigest content = is_some (typed_digest_in content)
is_content kinds.Path content = is_some (path_in_field content)
is_content kinds.Signature content = true
is_content kinds.ModsigDigest content = (length content == 0) || is_some (digest_in_field content)
is_content kinds.Modsig content = true
is_content kinds.Buffer content = true
is_content kinds.EvmSignature content = true
is_content kinds.XattrNames content = true
is_content kinds.XattrLengths content = length content % 4 == 0
is_content kinds.XattrValues content = true
is_content kinds.User content = (length content == 0) || (length content == 4)
is_content kinds.Group content = (length content == 0) || (length content == 4)
is_content kinds.Mode content = (length content == 0) || (length content == 2)

-- ---- the templates (the kernel's security/integrity/ima/ima_template.c, builtin_templates)

abbrev pub owner_kinds : List KernelField
owner_kinds = kinds.User ∷ kinds.Group ∷ kinds.Mode ∷ []

abbrev pub xattr_kinds : List KernelField
xattr_kinds = kinds.XattrNames ∷ kinds.XattrLengths ∷ kinds.XattrValues ∷ []

-- The fields of a template with this name: `d-ngv2|n-ng`, `d-ngv2|n-ng|sig`, `d-ng|n-ng|buf`, `d-ng|n-ng|sig|d-modsig|modsig`,
-- and `d-ng|n-ng|evmsig|xattrnames|xattrlengths|xattrvalues|iuid|igid|imode`.
abbrev pub kernel_row : List ℕ → Option (List KernelField)
kernel_row name =
    if bytes_eq name (codes "ima-ngv2") then Some (kinds.TypedDigest ∷ kinds.Path ∷ [])
    else if bytes_eq name (codes "ima-sigv2") then Some (kinds.TypedDigest ∷ kinds.Path ∷ kinds.Signature ∷ [])
    else if bytes_eq name (codes "ima-buf") then Some (kinds.NamedDigest ∷ kinds.Path ∷ kinds.Buffer ∷ [])
    else if bytes_eq name (codes "ima-modsig") then
    Some (kinds.NamedDigest ∷ kinds.Path ∷ kinds.Signature ∷ kinds.ModsigDigest ∷ kinds.Modsig ∷ [])
    else if bytes_eq name (codes "evm-sig") then
    Some (kinds.NamedDigest ∷ kinds.Path ∷ kinds.EvmSignature ∷ (xattr_kinds ++ owner_kinds))
    else None

-- ---- the fields of an entry

-- A field: its kind, and its content.
pub record FieldData : Type 0 where
  pub kind : KernelField
  pub content : List ℕ

-- A content that fits its kind and its length prefix.
pub record IsField (field : FieldData) : Type 0 where
  pub content : is_content field.kind field.content ≡ true
  pub size : length field.content < 2 ^ 32

-- The payload is these fields, of the kinds of the row, each with its length before it.
pub record AreFields (row : List KernelField) (payload : List ℕ) (fields : List FieldData) : Type 0 where
  pub kinds_are : map (λ field. field.kind) fields ≡ row
  pub each : AllByRecursion IsField fields
  pub spelled : payload ≡ flat_map (λ field. sized32 field.content) fields

-- The entry has these fields.
pub record HasKernelFields (entry : ListEntry) (fields : List FieldData) : Type 0 where
  pub row : List KernelField
  pub template : kernel_row entry.name ≡ Some row
  pub are : AreFields row entry.payload fields

-- ---- the same, read from the payload; that both agree is a clause of `EntryRef::kernel_fields`

abbrev pub if_content : KernelField → Option (List ℕ × List ℕ) → Option (List ℕ × List ℕ)
if_content kind (Some field) = if is_content kind field.0 then Some field else None
if_content kind None = None

abbrev pub content_at : List ℕ → Result (List ℕ × List ℕ) (Unit {0})
content_at bytes = sized_at tt bytes

-- The content of the field at the start, and what follows it.
abbrev pub field_at : KernelField → List ℕ → Option (List ℕ × List ℕ)
field_at kind bytes = if_content kind (result_ok (content_at bytes))

-- Fields, and what is left of the row and of the bytes.
abbrev pub FieldsRead : Type 0
FieldsRead = List FieldData × (List KernelField × List ℕ)

abbrev pub and_more : KernelField → List KernelField → List ℕ → Option (List ℕ × List ℕ) → (List ℕ → FieldsRead) → FieldsRead
and_more kind row bytes (Some field) more = (record { kind = kind; content = field.0 } ∷ (more field.1).0, (more field.1).1)
and_more kind row bytes None more = ([], (kind ∷ row, bytes))

-- The fields of the row at the start of the bytes, up to the first that is none.
unfoldable pub fields_at : List KernelField → List ℕ → FieldsRead
fields_at [] bytes = ([], ([], bytes))
fields_at (kind ∷ row) bytes = and_more kind row bytes (field_at kind bytes) (λ rest. fields_at row rest)

-- Nothing is left of the row, nor of the bytes.
abbrev pub is_end : List KernelField × List ℕ → Bool
is_end left = (length left.0 == 0) && (length left.1 == 0)

-- The fields that are the payload, if they are all of the row.
abbrev pub fields_in : List KernelField → List ℕ → Option (List FieldData)
fields_in row payload = if is_end (fields_at row payload).1 then Some (fields_at row payload).0 else None

abbrev pub kernel_fields_of : ListEntry → Option (List FieldData)
kernel_fields_of entry = option_and_then (λ row. fields_in row entry.payload) (kernel_row entry.name)

-- ---- what contracts see of the code's values

abbrev pub field_of : FieldContent → FieldData
field_of field = record { kind = field.kind; content = field.content.now }

-- What is left of the row and of the bytes.
abbrev pub left_of : KernelFields → List KernelField × List ℕ
left_of fields = (fields.row.now, fields.rest.now)

-- What is read of them.
abbrev pub read_of : KernelFields → FieldsRead
read_of fields = fields_at (left_of fields).0 (left_of fields).1

-- The fields that were not lent yet.
abbrev pub fields_left : KernelFields → List FieldData
fields_left fields = (read_of fields).0

-- Whether these are all that is left.
abbrev pub is_read : KernelFields → Bool
is_read fields = is_end (read_of fields).1
