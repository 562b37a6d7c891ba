-- Which file an entry is of.
use Rattle.std.specs.Prelude.{ℕ, List, ◌∷◌, Option, Some, None, option_map, option_and_then}
use Rattle.std.specs.Borrow.{Bor}
use Rattle.pcr_banks.specs.declared.alg.Alg.{Alg}
use Rattle.pcr_banks.specs.declared.digest.Digest.{Digest}
use Rattle.pcr_banks.specs.Names.{digest_of}
use Rattle.ima_list.specs.declared.kernel_field.DigestType.{DigestType}
use Rattle.ima_list.specs.declared.kernel_field.DigestType.TheVariants.{Ima}
use Rattle.ima_list.specs.declared.kernel_field.KernelField.{KernelField}
use Rattle.ima_list.specs.declared.kernel_field.KernelField.TheVariants.{NamedDigest, TypedDigest}
use Rattle.ima_list.specs.FieldKinds.{FileFields, digest_in_field, path_in_field}
use Rattle.ima_list.specs.Fields.{fields_of}
use Rattle.ima_list.specs.KernelFields.{FieldData, kernel_fields_of, typed_digest_in}
use Rattle.ima_list.specs.ListEntry.{ListEntry}

-- What an entry says of a file: the digest of its content, and its path. By the template `ima-buf` these are the digest of the bytes that
-- were measured, and the name of what they are.
pub record FileTold : Type 0 where
  pub digest : Digest
  pub path : List ℕ

abbrev pub digest_made : Alg × List ℕ → Digest
digest_made of = digest_of of.0 of.1

-- By the templates `ima`, `ima-ng` and `ima-sig`.
abbrev pub told_by : FileFields → FileTold
told_by fields = record { digest = digest_of fields.alg fields.digest; path = fields.path }

-- The digest in a field d-ngv2 whose type says that it is of the file's content. One by fs-verity is of a tree of its blocks.
abbrev pub content_digest : Option (DigestType × (Alg × List ℕ)) → Option Digest
content_digest (Some (Ima, digest)) = Some (digest_made digest)
content_digest other = None

-- The digest of content in a field d-ng or d-ngv2.
abbrev pub digest_by_kind : KernelField → List ℕ → Option Digest
digest_by_kind NamedDigest content = option_map digest_made (digest_in_field content)
digest_by_kind TypedDigest content = content_digest (typed_digest_in content)
digest_by_kind other content = None

-- By the kernel's other templates: each has a digest first, and a path second.
abbrev pub told_by_fields : List FieldData → Option FileTold
told_by_fields (first ∷ second ∷ others) =
    option_and_then (λ digest. option_map (λ path. record { digest = digest; path = path }) (path_in_field second.content))
    (digest_by_kind first.kind first.content)
told_by_fields fields = None

abbrev pub told_by_either : Option FileFields → Option (List FieldData) → Option FileTold
told_by_either (Some fields) others = Some (told_by fields)
told_by_either None others = option_and_then told_by_fields others

-- What the entry says of a file, where it says that.
abbrev pub file_of : ListEntry → Option FileTold
file_of entry = told_by_either (fields_of entry) (kernel_fields_of entry)

-- What an entry of one of the kernel's other templates says.
abbrev pub kernel_file_of : ListEntry → Option FileTold
kernel_file_of entry = option_and_then told_by_fields (kernel_fields_of entry)

-- ---- what contracts see of the code's values

abbrev pub told_of : Digest × Bor (List ℕ) → FileTold
told_of file = record { digest = file.0; path = file.1.now }
