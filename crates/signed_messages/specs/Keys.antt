-- The keys by which signatures are verified.
use Rattle.std.specs.Prelude.{ℕ, ◌==◌, ◌&&◌, ◌||◌, Bool, if◌then◌else◌, nat_lt, List, length, slice_index, Option, Some, None, option_map, option_and_then}
use Rattle.pcr_banks.specs.declared.alg.Alg.{Alg}
use Rattle.pcr_banks.specs.declared.alg.Alg.TheVariants as algs
use Rattle.signature_hashes.specs.declared.hashes.Hash.{Hash}
use Rattle.signature_hashes.specs.declared.hashes.Hash.TheVariants as hashes
use Rattle.ecdsa_signatures.specs.declared.curves.Curve.{Curve}
use Rattle.ecdsa_signatures.specs.declared.curves.Curve.TheVariants.{P256, P384}
use Rattle.tpm_keys.specs.declared.area.Scheme.{Scheme}
use Rattle.tpm_keys.specs.declared.kinds.Curve as codes
use Rattle.tpm_keys.specs.declared.kinds.Curve.TheVariants as curves
use Rattle.tpm_keys.specs.declared.kinds.SchemeKind.{SchemeKind}
use Rattle.tpm_keys.specs.declared.kinds.SchemeKind.TheVariants as kinds
use Rattle.tpm_keys.specs.Spelling.{KeyArea, KeyNumbers, RsaNumbers, EccNumbers}
use Rattle.signed_messages.specs.declared.key.RsaScheme.{RsaScheme}
use Rattle.signed_messages.specs.declared.key.RsaScheme.TheVariants.{Pkcs1, Pss}
use Rattle.signed_messages.specs.declared.key.SigningScheme.{SigningScheme}
use Rattle.signed_messages.specs.declared.key.RsaPublicKey.{RsaPublicKey}
use Rattle.signed_messages.specs.declared.key.EccPublicKey.{EccPublicKey}
use Rattle.signed_messages.specs.declared.key.VerifyingKey.{VerifyingKey}
use Rattle.signed_messages.specs.declared.key.VerifyingKey.TheVariants as code

-- An RSA key with the exponent 65,537: its modulus, and how it signs; none where only its numbers are known.
pub record RsaKey : Type 0 where
  pub modulus : List ℕ
  pub scheme : Option SigningScheme

-- A key on a curve: the coordinates of its point, and the hash with which it signs by ECDSA; none where only its point is known.
pub record EccKey : Type 0 where
  pub curve : Curve
  pub x : List ℕ
  pub y : List ℕ
  pub hash : Option Hash

-- A key of either kind.
pub data MessageKey : Type 0 where
  ByRsa : RsaKey → MessageKey
  ByEcc : EccKey → MessageKey

-- ---- hashes and schemes

-- The hash of signatures by this algorithm: there is none by SHA-1.
abbrev pub hash_with : Alg → Option Hash
hash_with algs.Sha1 = None
hash_with algs.Sha256 = Some hashes.Sha256
hash_with algs.Sha384 = Some hashes.Sha384
hash_with algs.Sha512 = Some hashes.Sha512

-- How an RSA key of this scheme signs.
abbrev pub scheme_kind_with : SchemeKind → Option RsaScheme
scheme_kind_with kinds.Rsassa = Some Pkcs1
scheme_kind_with kinds.Rsapss = Some Pss
scheme_kind_with kind = None

-- How an RSA key of this scheme signs, and with which hash.
abbrev pub scheme_in : Scheme → Option SigningScheme
scheme_in scheme =
    option_and_then (λ kind. option_map (λ hash. record { kind = kind; hash = hash }) (option_and_then hash_with scheme.hash)) (scheme_kind_with scheme.kind)

-- The exponent as an area states it: 65,537, or 0, which stands for it (TPM 2.0 Library, part 2, TPMS_RSA_PARMS).
abbrev pub is_public_exponent : ℕ → Bool
is_public_exponent exponent = (exponent == 0) || (exponent == 65537)

-- The RSA key of at most 4,096 bits with this modulus, if it signs by this scheme.
abbrev pub rsa_key_with : Scheme → List ℕ → Option RsaKey
rsa_key_with scheme modulus =
    if nat_lt (length modulus) 256 then None
    else if nat_lt 512 (length modulus) then None
    else option_map (λ scheme. record { modulus = modulus; scheme = Some scheme }) (scheme_in scheme)

-- ---- keys on a curve

-- The curve, if keys on it are taken.
abbrev pub curve_with : codes.Curve → Option Curve
curve_with curves.P256 = Some P256
curve_with curves.P384 = Some P384
curve_with curves.P521 = None

-- The hash with which a key of this scheme signs by ECDSA.
abbrev pub ecdsa_hash_with : SchemeKind → Option Alg → Option Hash
ecdsa_hash_with kinds.Ecdsa hash = option_and_then hash_with hash
ecdsa_hash_with kind hash = None

abbrev pub ecdsa_hash_in : Scheme → Option Hash
ecdsa_hash_in scheme = ecdsa_hash_with scheme.kind scheme.hash

-- The key on such a curve with this point, if it signs by this scheme.
abbrev pub ecc_key_with : Scheme → codes.Curve → List ℕ → List ℕ → Option EccKey
ecc_key_with scheme curve x y =
    option_and_then (λ curve. option_map (λ hash. record { curve = curve; x = x; y = y; hash = Some hash }) (ecdsa_hash_in scheme)) (curve_with curve)

-- ---- the key

-- The key with these numbers, if it is such a key, and this scheme is one by which it signs.
abbrev pub key_with : Scheme → KeyNumbers → Option MessageKey
key_with scheme (RsaNumbers exponent modulus) = if is_public_exponent exponent then option_map ByRsa (rsa_key_with scheme modulus) else None
key_with scheme (EccNumbers curve x y) = option_map ByEcc (ecc_key_with scheme curve x y)

-- The key with this public area.
abbrev pub key_in : KeyArea → Option MessageKey
key_in area = key_with area.scheme area.numbers

-- ---- the key alone, of which scheme and hash are not known

-- The RSA key of 2,048 to 4,096 bits with this modulus.
abbrev pub rsa_alone : List ℕ → Option RsaKey
rsa_alone modulus =
    if nat_lt (slice_index modulus 0) 0x80 then None
    else if nat_lt (length modulus) 256 then None
    else if nat_lt 512 (length modulus) then None
    else Some (record { modulus = modulus; scheme = None })

-- How many bytes a coordinate has.
abbrev pub size_on : Curve → ℕ
size_on P256 = 32
size_on P384 = 48

-- The key on this curve with this point, whose coordinates have the curve's size.
abbrev pub ecc_on : Curve → List ℕ → List ℕ → Option EccKey
ecc_on curve x y =
    if (length x == size_on curve) && (length y == size_on curve) then Some (record { curve = curve; x = x; y = y; hash = None }) else None

abbrev pub ecc_alone : codes.Curve → List ℕ → List ℕ → Option EccKey
ecc_alone curve x y = option_and_then (λ curve. ecc_on curve x y) (curve_with curve)

-- The key with these numbers alone. The exponent is 65,537 as it is: no other number stands for it.
abbrev pub key_alone : KeyNumbers → Option MessageKey
key_alone (RsaNumbers exponent modulus) = if exponent == 65537 then option_map ByRsa (rsa_alone modulus) else None
key_alone (EccNumbers curve x y) = option_map ByEcc (ecc_alone curve x y)

-- ---- what contracts see of the code's values

abbrev pub rsa_key_of : RsaPublicKey → RsaKey
rsa_key_of key = record { modulus = key.modulus.now; scheme = key.scheme }

abbrev pub ecc_key_of : EccPublicKey → EccKey
ecc_key_of key = record { curve = key.curve; x = key.x.now; y = key.y.now; hash = key.hash }

abbrev pub key_of : VerifyingKey → MessageKey
key_of (code.Rsa key) = ByRsa (rsa_key_of key)
key_of (code.Ecc key) = ByEcc (ecc_key_of key)
