-- The fields of entries with the kernel's other templates, as JSON, nest little, and their numbers are small.
use Rattle.std.proofs.Common.{◌≡◌, ℕ, ◌^◌, Bool, true, false, cond, List, [], ◌∷◌, Option, Some, None, refl, arith, codes}
use Rattle.std.specs.Prelude.{nat_lt}
use Rattle.std.specs.Int.{w16, w32, from_le_bytes}
use Rattle.std.proofs.lemmas.Bool.{ltb-true}
use Rattle.json.specs.Json.{null}
use Rattle.pcr_banks.specs.declared.alg.Alg.{Alg}
use Rattle.ima_list.specs.declared.kernel_field.DigestType.{DigestType}
use Rattle.ima_list.specs.declared.kernel_field.KernelField.{KernelField}
use Rattle.ima_list.specs.declared.kernel_field.KernelField.TheVariants as kinds
use Rattle.ima_list.specs.Names.{FieldData, digest_in_field, typed_digest_in}
use Rattle.cells.specs.Values.{items_of, number_json}
use Rattle.entry_lines.specs.KernelFieldJson.{digest_members, field_members, fields_json, fields_members, number16_members, number32_members, numbers_in, small_json, typed_members}
use Rattle.cells.proofs.LineLaws.{ArePlain, IsPlain, ItemsArePlain, members_joined}

small_by : (n most : ℕ) (b : Bool) → nat_lt n (2 ^ 32) ≡ b → IsPlain (cond b (number_json n) null) most
small_by n most true e = (n, omega (arith, ltb-true n (2 ^ 32) e), refl)
small_by n most false e = tt

small_plain : (n most : ℕ) → IsPlain (small_json n) most
small_plain n most = small_by n most (nat_lt n (2 ^ 32)) refl

numbers_plain : (bytes : List ℕ) → ItemsArePlain (items_of (numbers_in bytes)) 0
unfolding numbers_in
numbers_plain (a ∷ b ∷ c ∷ d ∷ rest) = (small_plain (from_le_bytes w32 (a ∷ b ∷ c ∷ d ∷ [])) 0, numbers_plain rest)
numbers_plain (a ∷ b ∷ c ∷ []) = tt
numbers_plain (a ∷ b ∷ []) = tt
numbers_plain (a ∷ []) = tt
numbers_plain [] = tt

digest_plain : (alg_name name : List ℕ) (file : Option (Alg × List ℕ)) → ArePlain (digest_members alg_name name file) 1
digest_plain alg_name name (Some file) = (tt, (tt, tt))
digest_plain alg_name name None = tt

typed_plain : (file : Option (DigestType × (Alg × List ℕ))) → ArePlain (typed_members file) 1
typed_plain (Some file) = (tt, (tt, (tt, tt)))
typed_plain None = tt

number32_plain : (name bytes : List ℕ) → ArePlain (number32_members name bytes) 1
number32_plain name (a ∷ b ∷ c ∷ d ∷ []) = (small_plain (from_le_bytes w32 (a ∷ b ∷ c ∷ d ∷ [])) 1, tt)
number32_plain name (a ∷ b ∷ c ∷ d ∷ e ∷ rest) = tt
number32_plain name (a ∷ b ∷ c ∷ []) = tt
number32_plain name (a ∷ b ∷ []) = tt
number32_plain name (a ∷ []) = tt
number32_plain name [] = tt

number16_plain : (name bytes : List ℕ) → ArePlain (number16_members name bytes) 1
number16_plain name (a ∷ b ∷ []) = (small_plain (from_le_bytes w16 (a ∷ b ∷ [])) 1, tt)
number16_plain name (a ∷ b ∷ c ∷ rest) = tt
number16_plain name (a ∷ []) = tt
number16_plain name [] = tt

field_plain : (kind : KernelField) (content : List ℕ) → ArePlain (field_members kind content) 1
field_plain kinds.NamedDigest content = digest_plain (codes "algorithm") (codes "digest") (digest_in_field content)
field_plain kinds.TypedDigest content = typed_plain (typed_digest_in content)
field_plain kinds.Path content = (tt, tt)
field_plain kinds.Signature content = (tt, tt)
field_plain kinds.ModsigDigest content = digest_plain (codes "modsig_algorithm") (codes "modsig_digest") (digest_in_field content)
field_plain kinds.Modsig content = (tt, tt)
field_plain kinds.Buffer content = (tt, tt)
field_plain kinds.EvmSignature content = (tt, tt)
field_plain kinds.XattrNames content = (tt, tt)
field_plain kinds.XattrLengths content = (numbers_plain content, tt)
field_plain kinds.XattrValues content = (tt, tt)
field_plain kinds.User content = number32_plain (codes "uid") content
field_plain kinds.Group content = number32_plain (codes "gid") content
field_plain kinds.Mode content = number16_plain (codes "mode") content

members_plain : (fields : List FieldData) → ArePlain (fields_members fields) 1
members_plain [] = tt
members_plain (field ∷ fields) =
    members_joined 1 (field_members field.kind field.content) (fields_members fields) (field_plain field.kind field.content) (members_plain fields)

pub fields_plain : (fields : List FieldData) → IsPlain (fields_json fields) 2
fields_plain fields = members_plain fields
