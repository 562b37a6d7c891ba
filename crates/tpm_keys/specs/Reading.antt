-- Reading a public area: first its frame, if it has one, then the area from left to right, up to the first fault.
use Rattle.std.specs.Prelude.{◌≡◌, ℕ, ◌*◌, not, Bool, true, false, ◌&&◌, ◌||◌, if◌then◌else◌, Some, None, ◌==◌, nat_lt, nat_le, List, [], length, slice_index, Option, is_some, unwrap_or, Result, Ok, Err, ok_or, is_ok}
use Rattle.std.specs.Int.{w16, w32}
use Rattle.std.specs.Option.{option_map_or}
use Rattle.std.specs.Result.{result_err}
use Rattle.byte_fields.specs.Reading.{◌>>=◌}
use Rattle.byte_fields.specs.Formats.{Format, big_number, ◌followed_by◌, viewed, unless, mapped, either, sized_by, whole}
use Rattle.pcr_banks.specs.declared.alg.Alg.{Alg}
use Rattle.pcr_banks.specs.declared.alg.Alg.TheVariants.{Sha1}
use Rattle.pcr_banks.specs.Names.{tpm_id_of}
use Rattle.tpm_quotes.specs.Reading.{alg_with}
use Rattle.tpm_keys.specs.declared.area.Cipher.{Cipher}
use Rattle.tpm_keys.specs.declared.area.Scheme.{Scheme}
use Rattle.tpm_keys.specs.declared.fault.KeyFault.{KeyFault}
use Rattle.tpm_keys.specs.declared.fault.KeyFault.TheVariants.{Truncated, OtherType, UnknownHash, OtherSymmetric, UnknownScheme, OtherExponent, UnknownCurve, KeyDerivation, KeySize, Trailing}
use Rattle.tpm_keys.specs.declared.kinds.Curve.{Curve}
use Rattle.tpm_keys.specs.declared.kinds.Curve.TheVariants.{P256}
use Rattle.tpm_keys.specs.declared.kinds.KeyType.{KeyType}
use Rattle.tpm_keys.specs.declared.kinds.KeyType.TheVariants.{Rsa, Ecc}
use Rattle.tpm_keys.specs.declared.kinds.Purpose.{Purpose}
use Rattle.tpm_keys.specs.declared.kinds.SchemeKind.{SchemeKind}
use Rattle.tpm_keys.specs.Purposes.{sound}
use Rattle.tpm_keys.specs.Kinds.{type_id, type_with, scheme_id, scheme_with, has_hash, curve_id, curve_with, coordinate_size}
use Rattle.tpm_keys.specs.Spelling.{KeyNumbers, RsaNumbers, EccNumbers, KeyArea, null_id, type_of}

-- Bytes that are prefixed by their number, in two bytes.
unfoldable pub sized : Format (List ℕ) KeyFault
sized = sized_by (big_number Truncated w16) Truncated

unfoldable pub hash : Format Alg KeyFault
hash = viewed (λ id. ok_or (alg_with id) UnknownHash) tpm_id_of (big_number Truncated w16)

-- ---- what the area begins with

unfoldable pub key_type : Format KeyType KeyFault
key_type = viewed (λ id. ok_or (type_with id) OtherType) type_id (big_number Truncated w16)

-- The algorithm of the name, the attributes and the policy.
unfoldable pub head : Format (Alg × (ℕ × List ℕ)) KeyFault
head = hash followed_by λ h. big_number Truncated w32 followed_by λ a. sized

-- ---- the symmetric algorithm

-- Whether the algorithm with this number is AES; or it is none.
abbrev pub is_aes_with : ℕ → Option Bool
is_aes_with id = if id == 0x0006 then Some true else if id == null_id then Some false else None

abbrev pub aes_id : Bool → ℕ
aes_id true = 0x0006
aes_id false = null_id

unfoldable pub is_aes : Format Bool KeyFault
is_aes = viewed (λ id. ok_or (is_aes_with id) OtherSymmetric) aes_id (big_number Truncated w16)

abbrev pub cipher_numbers : Option Cipher → ℕ × ℕ
cipher_numbers cipher = option_map_or (λ cipher. (cipher.bits, cipher.mode)) cipher (0, 0)

unfoldable pub aes : Format (Option Cipher) KeyFault
aes =
    mapped (λ x. Some (record { bits = x.0; mode = x.1 })) cipher_numbers
    (big_number Truncated w16 followed_by λ b. big_number Truncated w16)

-- There is none, which takes no bytes.
abbrev pub nothing : {X : Type 0} → Format (Option X) KeyFault
nothing = record { at = λ bytes. Ok (None, bytes); Is = λ x. x ≡ None; spell = λ x. []; Fails = λ bytes d. ⊥ }

unfoldable pub cipher : Format (Option Cipher) KeyFault
cipher = mapped (λ x. x.1) (λ cipher. (is_some cipher, cipher)) (is_aes followed_by λ is. either is aes nothing)

-- ---- the scheme

unfoldable pub scheme_kind : KeyType → Format SchemeKind KeyFault
scheme_kind type = viewed (λ id. ok_or (scheme_with type id) UnknownScheme) scheme_id (big_number Truncated w16)

unfoldable pub some_hash : Format (Option Alg) KeyFault
some_hash = mapped (λ alg. Some alg) (λ hash. unwrap_or hash Sha1) hash

unfoldable pub scheme : KeyType → Format Scheme KeyFault
scheme type =
    mapped (λ x. record { kind = x.0; hash = x.1 }) (λ scheme. (scheme.kind, scheme.hash))
    (scheme_kind type followed_by λ kind. either (has_hash kind) some_hash nothing)

-- ---- the key itself

unfoldable pub exponent : Format ℕ KeyFault
exponent = unless (λ e. not ((e == 0) || (e == 65537))) OtherExponent (big_number Truncated w32)

-- Whether these bytes have so many bits, the first of which is set.
abbrev pub has_bits : ℕ → List ℕ → Bool
has_bits bits bytes = (8 * length bytes == bits) && nat_le 128 (slice_index bytes 0)

abbrev pub rsa_parts : KeyNumbers → ℕ × (ℕ × List ℕ)
rsa_parts (RsaNumbers e modulus) = (8 * length modulus, (e, modulus))
rsa_parts (EccNumbers c x y) = (0, (0, []))

unfoldable pub rsa_numbers : Format KeyNumbers KeyFault
rsa_numbers =
    mapped (λ x. RsaNumbers x.1.0 x.1.1) rsa_parts
    (big_number Truncated w16 followed_by λ bits. exponent followed_by λ e. unless (λ modulus. not (has_bits bits modulus)) KeySize sized)

unfoldable pub curve : Format Curve KeyFault
curve = viewed (λ id. ok_or (curve_with id) UnknownCurve) curve_id (big_number Truncated w16)

unfoldable pub no_derivation : Format ℕ KeyFault
no_derivation = unless (λ id. not (id == null_id)) KeyDerivation (big_number Truncated w16)

unfoldable pub coordinate : Curve → Format (List ℕ) KeyFault
coordinate curve = unless (λ bytes. nat_lt (coordinate_size curve) (length bytes)) KeySize sized

abbrev pub ecc_parts : KeyNumbers → Curve × (ℕ × (List ℕ × List ℕ))
ecc_parts (RsaNumbers e modulus) = (P256, (null_id, ([], [])))
ecc_parts (EccNumbers c x y) = (c, (null_id, (x, y)))

unfoldable pub ecc_numbers : Format KeyNumbers KeyFault
ecc_numbers =
    mapped (λ x. EccNumbers x.0 x.1.1.0 x.1.1.1) ecc_parts
    (curve followed_by λ c. no_derivation followed_by λ n. coordinate c followed_by λ x. coordinate c)

abbrev pub numbers : KeyType → Format KeyNumbers KeyFault
numbers Rsa = rsa_numbers
numbers Ecc = ecc_numbers

-- ---- the public area

unfoldable pub area : Format KeyArea KeyFault
area =
    mapped
    (λ x. record { name_alg = x.1.0.0; attributes = x.1.0.1.0; policy = x.1.0.1.1; cipher = x.1.1.0; scheme = x.1.1.1.0; numbers = x.1.1.1.1 })
    (λ a. (type_of a.numbers, ((a.name_alg, (a.attributes, a.policy)), (a.cipher, (a.scheme, a.numbers)))))
    (key_type followed_by λ t. head followed_by λ h. cipher followed_by λ c. scheme t followed_by λ s. numbers t)

-- Whether a type is at the start of the bytes.
abbrev pub has_type : List ℕ → Bool
has_type bytes = is_ok (key_type.at bytes)

-- Whether a type was read, and no other follows it.
abbrev pub is_one_type : Result (KeyType × List ℕ) KeyFault → Bool
is_one_type (Ok x) = not (has_type x.1)
is_one_type (Err fault) = false

-- Whether an area is bare: a type comes first, and none after it. Behind a size the type is the second number, where a bare area has that of a
-- hash, which is no type's: so a size that is also the number of a type is a size.
abbrev pub is_bare : List ℕ → Bool
is_bare bytes = is_one_type (key_type.at bytes)

-- What all of the bytes state as a bare area, or their first fault.
abbrev pub bare_area : List ℕ → Result KeyArea KeyFault
bare_area bytes = whole Trailing area bytes

-- What they state as an area behind its size.
unfoldable pub sized_area : List ℕ → Result KeyArea KeyFault
sized_area bytes = whole Trailing sized bytes >>= λ framed. bare_area framed

-- What all of the bytes state, or their first fault.
unfoldable pub area_in : List ℕ → Result KeyArea KeyFault
area_in bytes = if is_bare bytes then bare_area bytes else sized_area bytes

abbrev pub area_fault : List ℕ → Option KeyFault
area_fault bytes = result_err (area_in bytes)

-- What they state, if the key lacks nothing; or the first fault.
unfoldable pub key_in : Purpose → List ℕ → Result KeyArea KeyFault
key_in purpose bytes = area_in bytes >>= λ area. sound purpose area

abbrev pub key_fault : Purpose → List ℕ → Option KeyFault
key_fault purpose bytes = result_err (key_in purpose bytes)
