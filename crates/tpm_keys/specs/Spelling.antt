-- What the public area of a TPM's key is: a relation between bytes and what they state (TPM 2.0 Library, part 2, TPM2B_PUBLIC and
-- TPMT_PUBLIC). All numbers are big endian.
use Rattle.std.specs.Prelude.{◌≡◌, ℕ, ◌^◌, ◌*◌, ◌<◌, ◌≤◌, ◌⊎◌, List, [], ◌++◌, length, slice_index, Option, Some, None, is_some}
use Rattle.std.specs.Int.{w16, w32, to_be_bytes}
use Rattle.pcr_banks.specs.declared.alg.Alg.{Alg}
use Rattle.pcr_banks.specs.Names.{tpm_id_of}
use Rattle.tpm_quotes.specs.Spelling.{sized16}
use Rattle.tpm_keys.specs.declared.area.Cipher.{Cipher}
use Rattle.tpm_keys.specs.declared.area.PublicArea.{PublicArea}
use Rattle.tpm_keys.specs.declared.area.Scheme.{Scheme}
use Rattle.tpm_keys.specs.declared.kinds.Curve.{Curve}
use Rattle.tpm_keys.specs.declared.kinds.KeyType.{KeyType}
use Rattle.tpm_keys.specs.declared.kinds.KeyType.TheVariants.{Rsa, Ecc}
use Rattle.tpm_keys.specs.declared.material.Material.{Material}
use Rattle.tpm_keys.specs.declared.material.Material.TheVariants as materials
use Rattle.tpm_keys.specs.Kinds.{type_id, scheme_id, scheme_with, has_hash, curve_id, coordinate_size}

-- TPM_ALG_NULL: there is none.
abbrev pub null_id : ℕ
null_id = 0x0010

-- ---- the symmetric algorithm

-- Its spelling (part 2, TPMT_SYM_DEF_OBJECT): none, or AES with the bits of its key and its mode.
abbrev pub cipher_spelling : Option Cipher → List ℕ
cipher_spelling None = to_be_bytes w16 null_id
cipher_spelling (Some cipher) = to_be_bytes w16 0x0006 ++ (to_be_bytes w16 cipher.bits ++ to_be_bytes w16 cipher.mode)

-- Its numbers fit their fields.
abbrev pub IsCipher : Option Cipher → Type 0
IsCipher None = Unit {0}
IsCipher (Some cipher) = (cipher.bits < 2 ^ 16) × (cipher.mode < 2 ^ 16)

-- ---- the scheme

abbrev pub hash_spelling : Option Alg → List ℕ
hash_spelling None = []
hash_spelling (Some alg) = to_be_bytes w16 (tpm_id_of alg)

-- Its spelling (part 2, TPMT_RSA_SCHEME and TPMT_ECC_SCHEME): its number, and its hash, if one belongs to it.
abbrev pub scheme_spelling : Scheme → List ℕ
scheme_spelling scheme = to_be_bytes w16 (scheme_id scheme.kind) ++ hash_spelling scheme.hash

-- The scheme is one of keys of this type, and has the hash that belongs to it.
pub record IsScheme (type : KeyType) (scheme : Scheme) : Type 0 where
  pub of_type : scheme_with type (scheme_id scheme.kind) ≡ Some scheme.kind
  pub hash_belongs : is_some scheme.hash ≡ has_hash scheme.kind

-- ---- the key itself

-- What is public of the key itself: the exponent and the modulus of an RSA key, or a curve and a point of it.
pub data KeyNumbers : Type 0 where
  RsaNumbers : ℕ → List ℕ → KeyNumbers
  EccNumbers : Curve → List ℕ → List ℕ → KeyNumbers

abbrev pub type_of : KeyNumbers → KeyType
type_of (RsaNumbers exponent modulus) = Rsa
type_of (EccNumbers curve x y) = Ecc

-- Their spelling (part 2, TPMS_RSA_PARMS with TPM2B_PUBLIC_KEY_RSA, and TPMS_ECC_PARMS with TPMS_ECC_POINT; a key has no key derivation).
abbrev pub numbers_spelling : KeyNumbers → List ℕ
numbers_spelling (RsaNumbers exponent modulus) = to_be_bytes w16 (8 * length modulus) ++ (to_be_bytes w32 exponent ++ sized16 modulus)
numbers_spelling (EccNumbers curve x y) = to_be_bytes w16 (curve_id curve) ++ (to_be_bytes w16 null_id ++ (sized16 x ++ sized16 y))

-- The exponent is 65,537, which 0 stands for; the modulus has as many bits as its size in bits says, so its first bit is set; and
-- no coordinate is longer than those of the curve.
abbrev pub AreNumbers : KeyNumbers → Type 0
AreNumbers (RsaNumbers exponent modulus) = ((exponent ≡ 0) ⊎ (exponent ≡ 65537)) × (8 * length modulus < 2 ^ 16) × (128 ≤ slice_index modulus 0)
AreNumbers (EccNumbers curve x y) = (length x ≤ coordinate_size curve) × (length y ≤ coordinate_size curve)

-- ---- the public area

-- What a public area states: the algorithm of the key's name, its attributes, the digest of the policy to use it, the symmetric algorithm, the
-- scheme, and the key itself.
pub record KeyArea : Type 0 where
  pub name_alg : Alg
  pub attributes : ℕ
  pub policy : List ℕ
  pub cipher : Option Cipher
  pub scheme : Scheme
  pub numbers : KeyNumbers

-- How the area is spelled (part 2, TPMT_PUBLIC).
abbrev pub area_spelling : KeyArea → List ℕ
area_spelling area =
    to_be_bytes w16 (type_id (type_of area.numbers)) ++ (to_be_bytes w16 (tpm_id_of area.name_alg) ++ (to_be_bytes w32 area.attributes ++
    (sized16 area.policy ++ (cipher_spelling area.cipher ++ (scheme_spelling area.scheme ++ numbers_spelling area.numbers)))))

-- The bytes are what is spelled so: with its size before it (part 2, TPM2B_PUBLIC), as tpm2-tools write an area; or bare (TPMT_PUBLIC), as go-tpm
-- keeps one.
abbrev pub Holds : List ℕ → List ℕ → Type 0
Holds bytes spelling = ((length spelling < 2 ^ 16) × (bytes ≡ sized16 spelling)) ⊎ (bytes ≡ spelling)

-- The bytes are a public area that states this, with its size or bare, and nothing else.
pub record IsPublicArea (bytes : List ℕ) (area : KeyArea) : Type 0 where
  pub attributes_fit : area.attributes < 2 ^ 32
  pub policy_fits : length area.policy < 2 ^ 16
  pub cipher_is : IsCipher area.cipher
  pub scheme_is : IsScheme (type_of area.numbers) area.scheme
  pub numbers_are : AreNumbers area.numbers
  pub spelled : Holds bytes (area_spelling area)

-- ---- what contracts see of the code's values

abbrev pub numbers_of : Material → KeyNumbers
numbers_of (materials.Rsa exponent modulus) = RsaNumbers exponent modulus.now
numbers_of (materials.Ecc curve x y) = EccNumbers curve x.now y.now

abbrev pub area_of : PublicArea → KeyArea
area_of area = record {
  name_alg = area.name_alg;
  attributes = area.attributes;
  policy = area.policy.now;
  cipher = area.cipher;
  scheme = area.scheme;
  numbers = numbers_of area.material;
}
