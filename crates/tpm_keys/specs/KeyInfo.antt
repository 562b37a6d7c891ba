-- A key as other programs read it: its SubjectPublicKeyInfo in DER, and its PEM.
use Rattle.std.specs.Prelude.{ℕ, ◌+◌, ◌-◌, ◌*◌, ◌/◌, Bool, if◌then◌else◌, ◌==◌, nat_lt, List, [], ◌∷◌, ◌++◌, length, take, drop, replicate, slice_index, codes, flat_map}
use Rattle.std.specs.Int.{w64, to_be_bytes}
use Rattle.std.specs.List.{range_with_len}
use Rattle.base64.specs.Engines.{standard}
use Rattle.base64.specs.GeneralPurpose.{encode_of}
use Rattle.tpm_keys.specs.declared.kinds.Curve.{Curve}
use Rattle.tpm_keys.specs.declared.kinds.Curve.TheVariants.{P256, P384, P521}
use Rattle.tpm_keys.specs.Kinds.{coordinate_size}
use Rattle.tpm_keys.specs.Spelling.{KeyNumbers, RsaNumbers, EccNumbers}

-- ---- DER (ITU-T X.690)

-- Bytes without the zeros that they begin with.
unfoldable pub without_zeros : List ℕ → List ℕ
without_zeros [] = []
without_zeros (byte ∷ bytes) = if byte == 0 then without_zeros bytes else byte ∷ bytes

-- Bytes, and before them their number, with the first bit set.
abbrev pub counted : List ℕ → List ℕ
counted bytes = (0x80 + length bytes) ∷ bytes

-- The length of a content of fewer than 2^64 bytes, in as few bytes as there may be (8.1.3, 10.1): in one; or in those of its number, big endian.
abbrev pub der_length : ℕ → List ℕ
der_length size = if nat_lt size 0x80 then size ∷ [] else counted (without_zeros (to_be_bytes w64 size))

-- A value with this tag.
abbrev pub der : ℕ → List ℕ → List ℕ
der tag content = tag ∷ (der_length (length content) ++ content)

abbrev pub sequence : List ℕ → List ℕ
sequence content = der 0x30 content

-- A number whose first byte here is not 0 (8.3: a zero before it where its first bit is set, which would make it negative).
abbrev pub integer : List ℕ → List ℕ
integer bytes = der 0x02 (if nat_lt (slice_index bytes 0) 0x80 then bytes else 0 ∷ bytes)

-- Whole bytes as a bit string (8.6: no bit of the last byte is unused).
abbrev pub bit_string : List ℕ → List ℕ
bit_string bytes = der 0x03 (0 ∷ bytes)

-- An object identifier whose parts are spelled so (8.19).
abbrev pub object_identifier : List ℕ → List ℕ
object_identifier parts = der 0x06 parts

abbrev pub null : List ℕ
null = der 0x05 []

-- ---- SubjectPublicKeyInfo (RFC 5280, section 4.1.2.7)

-- rsaEncryption, 1.2.840.113549.1.1.1 (RFC 8017, appendix A.1); id-ecPublicKey, 1.2.840.10045.2.1 (RFC 5480, section 2.1.1).
abbrev pub rsa_encryption : List ℕ
rsa_encryption = object_identifier (0x2A ∷ 0x86 ∷ 0x48 ∷ 0x86 ∷ 0xF7 ∷ 0x0D ∷ 0x01 ∷ 0x01 ∷ 0x01 ∷ [])

abbrev pub ec_public_key : List ℕ
ec_public_key = object_identifier (0x2A ∷ 0x86 ∷ 0x48 ∷ 0xCE ∷ 0x3D ∷ 0x02 ∷ 0x01 ∷ [])

-- secp256r1, 1.2.840.10045.3.1.7; secp384r1, 1.3.132.0.34; secp521r1, 1.3.132.0.35 (RFC 5480, section 2.1.1.1).
abbrev pub named_curve : Curve → List ℕ
named_curve P256 = object_identifier (0x2A ∷ 0x86 ∷ 0x48 ∷ 0xCE ∷ 0x3D ∷ 0x03 ∷ 0x01 ∷ 0x07 ∷ [])
named_curve P384 = object_identifier (0x2B ∷ 0x81 ∷ 0x04 ∷ 0x00 ∷ 0x22 ∷ [])
named_curve P521 = object_identifier (0x2B ∷ 0x81 ∷ 0x04 ∷ 0x00 ∷ 0x23 ∷ [])

abbrev pub algorithm_of : KeyNumbers → List ℕ
algorithm_of (RsaNumbers exponent modulus) = sequence (rsa_encryption ++ null)
algorithm_of (EccNumbers curve x y) = sequence (ec_public_key ++ named_curve curve)

-- A coordinate of the curve's size: zeros stand before a shorter one.
abbrev pub padded : Curve → List ℕ → List ℕ
padded curve bytes = replicate (coordinate_size curve - length bytes) 0 ++ bytes

-- The key: RSAPublicKey (RFC 8017, appendix A.1.1), whose exponent is 65,537; or an uncompressed point (RFC 5480, section 2.2).
abbrev pub key_bytes : KeyNumbers → List ℕ
key_bytes (RsaNumbers exponent modulus) = sequence (integer modulus ++ integer (0x01 ∷ 0x00 ∷ 0x01 ∷ []))
key_bytes (EccNumbers curve x y) = 0x04 ∷ (padded curve x ++ padded curve y)

abbrev pub key_info : KeyNumbers → List ℕ
key_info numbers = sequence (algorithm_of numbers ++ bit_string (key_bytes numbers))

-- ---- PEM (RFC 7468, section 13)

-- Line `n` of a text, of 64 characters; the last one may be shorter.
abbrev pub line : List ℕ → ℕ → List ℕ
line text n = take 64 (drop (64 * n) text) ++ codes "\n"

abbrev pub in_lines : List ℕ → List ℕ
in_lines text = flat_map (line text) (range_with_len 0 ((length text + 63) / 64))

-- The base64 (RFC 4648, section 4) of its SubjectPublicKeyInfo.
unfoldable pub key_base64 : KeyNumbers → List ℕ
key_base64 numbers = encode_of standard (key_info numbers)

-- A text in lines, between two others.
abbrev pub pem_of : List ℕ → List ℕ
pem_of text = codes "-----BEGIN PUBLIC KEY-----\n" ++ (in_lines text ++ codes "-----END PUBLIC KEY-----\n")

abbrev pub key_pem : KeyNumbers → List ℕ
key_pem numbers = pem_of (key_base64 numbers)
