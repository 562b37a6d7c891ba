-- What the kernel prints of an entry in the list as text (the kernel's securityfs file `ima/ascii_runtime_measurements`;
-- security/integrity/ima/ima_fs.c, ima_ascii_measurements_show, for the line; ima_template.c, builtin_templates, for the templates, and
-- supported_fields for how each field is shown; ima_template_lib.c, ima_show_template_data_ascii, for what is printed of it).
use Rattle.std.specs.Prelude.{◌≡◌, ℕ, ◌||◌, Bool, true, is_some, List, [], ◌∷◌, ◌++◌, codes, decimal, flat_map, bytes_eq, Option, Some, None}
use Rattle.std.specs.Int.{w16, w32, from_le_bytes}
use Rattle.std.specs.List.{AllByRecursion}
use Rattle.hex.specs.Hex.{encode_lower}
use Rattle.pcr_banks.specs.declared.alg.Alg.{Alg}
use Rattle.pcr_banks.specs.Names.{name_of}
use Rattle.ima_list.specs.declared.kernel_field.DigestType.{DigestType}
use Rattle.ima_list.specs.declared.kernel_field.KernelField.{KernelField}
use Rattle.ima_list.specs.declared.kernel_field.KernelField.TheVariants as kinds
use Rattle.ima_list.specs.Names.{FieldData, ListEntry, digest_in_field, fields_of, kernel_fields_of, line_head, line_of, path_in_field, type_prefix, typed_digest_in}

-- ---- the printed forms of fields

-- A digest: the algorithm's name, a colon, and the digits. Nothing of a field without one (ima_show_template_digest_ng).
abbrev pub printed_digest : Option (Alg × List ℕ) → List ℕ
printed_digest (Some file) = name_of file.0 ++ (codes ":" ++ encode_lower file.1)
printed_digest None = []

-- A digest after its type and a colon (ima_show_template_digest_ngv2).
abbrev pub printed_typed_digest : Option (DigestType × (Alg × List ℕ)) → List ℕ
printed_typed_digest (Some file) = type_prefix file.0 ++ (codes ":" ++ printed_digest (Some file.1))
printed_typed_digest None = []

-- A text without the NUL at its end (ima_show_template_string). Bytes without one, which the kernel has in no such field, as they are.
abbrev pub printed_text : Option (List ℕ) → List ℕ → List ℕ
printed_text (Some text) content = text
printed_text None content = content

-- A number of four bytes or of two in decimal; nothing of a field without one (ima_show_template_uint).
abbrev pub printed_number : List ℕ → List ℕ
printed_number (a ∷ b ∷ c ∷ d ∷ []) = decimal (from_le_bytes w32 (a ∷ b ∷ c ∷ d ∷ []))
printed_number (a ∷ b ∷ []) = decimal (from_le_bytes w16 (a ∷ b ∷ []))
printed_number content = []

-- The printed form of a field of this kind. Signatures, values of extended attributes and their lengths, and bytes are printed in
-- hexadecimal (ima_show_template_sig, ima_show_template_buf).
abbrev pub printed_form : KernelField → List ℕ → List ℕ
printed_form kinds.NamedDigest content = printed_digest (digest_in_field content)
printed_form kinds.TypedDigest content = printed_typed_digest (typed_digest_in content)
printed_form kinds.Path content = printed_text (path_in_field content) content
printed_form kinds.Signature content = encode_lower content
printed_form kinds.ModsigDigest content = printed_digest (digest_in_field content)
printed_form kinds.Modsig content = encode_lower content
printed_form kinds.Buffer content = encode_lower content
printed_form kinds.EvmSignature content = encode_lower content
printed_form kinds.XattrNames content = printed_text (path_in_field content) content
printed_form kinds.XattrLengths content = encode_lower content
printed_form kinds.XattrValues content = encode_lower content
printed_form kinds.User content = printed_number content
printed_form kinds.Group content = printed_number content
printed_form kinds.Mode content = printed_number content

-- The printed forms of fields, a space before each, even of a field of which nothing is printed.
abbrev pub printed_forms : List FieldData → List ℕ
printed_forms fields = flat_map (λ field. codes " " ++ printed_form field.kind field.content) fields

-- ---- lines

-- The line of an entry with these fields. Without them it is the line of `ima`, `ima-ng` or `ima-sig`, which `line_of` has.
abbrev pub line_with : ListEntry → Option (List FieldData) → List ℕ
line_with entry (Some fields) = line_head entry ++ (printed_forms fields ++ codes "\n")
line_with entry None = line_of entry

-- The line of an entry that has fields.
abbrev pub kernel_line : ListEntry → List ℕ
kernel_line entry = line_with entry (kernel_fields_of entry)

-- The entry has the fields of its template, which is one of the kernel's. Of other entries it is not said here what the kernel prints.
abbrev pub HasPrintedFields : ListEntry → Type 0
HasPrintedFields entry = (is_some (fields_of entry) || is_some (kernel_fields_of entry)) ≡ true

-- All entries have.
abbrev pub HavePrintedFields : List ListEntry → Type 0
HavePrintedFields entries = AllByRecursion HasPrintedFields entries

-- What the kernel prints of entries that have fields: their lines, joined.
abbrev pub kernel_text : List ListEntry → List ℕ
kernel_text entries = flat_map kernel_line entries

-- ---- templates

-- Whether a template of the kernel has this name (ima_template.c, builtin_templates).
abbrev pub is_kernel_template : List ℕ → Bool
is_kernel_template name =
    (((((((bytes_eq name (codes "ima") || bytes_eq name (codes "ima-ng")) || bytes_eq name (codes "ima-sig"))
    || bytes_eq name (codes "ima-ngv2")) || bytes_eq name (codes "ima-sigv2")) || bytes_eq name (codes "ima-buf"))
    || bytes_eq name (codes "ima-modsig")) || bytes_eq name (codes "evm-sig"))
