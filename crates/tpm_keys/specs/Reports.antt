-- What is told of a key.
use Rattle.std.specs.Prelude.{◌≡◌, ℕ, ◌*◌, List, [], ◌++◌, codes, decimal, length, Option, Some, None}
use Rattle.std.specs.Int.{w16, to_be_bytes}
use Rattle.std.specs.String.{string_bytes}
use Rattle.hex.specs.Hex.{encode_lower}
use Rattle.pcr_banks.specs.declared.alg.Alg.{Alg}
use Rattle.pcr_banks.specs.declared.digest.Digest.{Digest}
use Rattle.pcr_banks.specs.Names.{alg_of, bytes_of, digest_of, hash_of, name_of, tpm_id_of}
use Rattle.tpm_keys.specs.declared.area.Scheme.{Scheme}
use Rattle.tpm_keys.specs.declared.kinds.KeyPart.{KeyPart}
use Rattle.tpm_keys.specs.declared.kinds.KeyPart.TheVariants as parts
use Rattle.tpm_keys.specs.declared.kinds.Purpose.{Purpose}
use Rattle.tpm_keys.specs.declared.report.KeyKind.{KeyKind}
use Rattle.tpm_keys.specs.declared.report.KeyKind.TheVariants as kinds
use Rattle.tpm_keys.specs.declared.report.KeyReport.{KeyReport}
use Rattle.tpm_keys.specs.Kinds.{curve_bits, scheme_name}
use Rattle.tpm_keys.specs.KeyInfo.{key_pem}
use Rattle.tpm_keys.specs.Purposes.{lack}
use Rattle.tpm_keys.specs.Spelling.{IsPublicArea, KeyArea, KeyNumbers, RsaNumbers, EccNumbers, area_spelling}

-- The key's name (part 1, 'Names'): the hash of its public area, by the algorithm that this states.
abbrev pub key_name : KeyArea → Digest
key_name area = digest_of area.name_alg (hash_of area.name_alg (area_spelling area))

abbrev pub kind_of : KeyNumbers → KeyKind
kind_of (RsaNumbers exponent modulus) = kinds.Rsa (8 * length modulus)
kind_of (EccNumbers curve x y) = kinds.Ecc curve

-- This is told of the key of this area.
pub record IsReport (area : KeyArea) (report : KeyReport) : Type 0 where
  pub name_is : report.name ≡ key_name area
  pub kind_is : report.kind ≡ kind_of area.numbers
  pub scheme_is : report.scheme ≡ area.scheme
  pub pem_is : string_bytes report.pem ≡ key_pem area.numbers

-- The bytes are the public area of a key that lacks nothing for this purpose, and this is told of it.
pub record IsKey (bytes : List ℕ) (purpose : Purpose) (report : KeyReport) : Type 0 where
  pub area : KeyArea
  pub is_area : IsPublicArea bytes area
  pub lacks_nothing : lack purpose area ≡ None
  pub told : IsReport area report

-- ---- as text

-- The name as the TPM has it: the number of its algorithm, and the hash.
abbrev pub name_bytes : Digest → List ℕ
name_bytes name = to_be_bytes w16 (tpm_id_of (alg_of name)) ++ bytes_of name

abbrev pub name_digits : Digest → List ℕ
name_digits name = encode_lower (name_bytes name)

abbrev pub kind_name : KeyKind → List ℕ
kind_name (kinds.Rsa bits) = codes "rsa"
kind_name (kinds.Ecc curve) = codes "ecc"

-- How many bits the modulus has, or a coordinate.
abbrev pub kind_bits : KeyKind → ℕ
kind_bits (kinds.Rsa bits) = bits
kind_bits (kinds.Ecc curve) = curve_bits curve

-- The name of the scheme's hash, with a space before it; nothing without one.
abbrev pub hash_words : Option Alg → List ℕ
hash_words None = []
hash_words (Some alg) = codes " " ++ name_of alg

abbrev pub kind_line : KeyKind → List ℕ
kind_line kind = codes "key " ++ (kind_name kind ++ (codes " " ++ (decimal (kind_bits kind) ++ codes "\n")))

abbrev pub scheme_line : Scheme → List ℕ
scheme_line scheme = codes "scheme " ++ (scheme_name scheme.kind ++ (hash_words scheme.hash ++ codes "\n"))

abbrev pub name_line : Digest → List ℕ
name_line name = name_digits name ++ codes "\n"

abbrev pub key_text : KeyPart → KeyReport → List ℕ
key_text parts.All report =
    codes "name " ++ (name_line report.name ++ (kind_line report.kind ++ (scheme_line report.scheme ++ string_bytes report.pem)))
key_text parts.Name report = name_line report.name
key_text parts.Pem report = string_bytes report.pem
