-- The types, schemes and curves of keys: their numbers (TCG Algorithm Registry, 'TPM_ALG_ID' and 'TPM_ECC_CURVE'), names and sizes.
use Rattle.std.specs.Prelude.{ℕ, Bool, true, false, ◌==◌, List, [], ◌∷◌, codes, find, Option}
use Rattle.tpm_keys.specs.declared.kinds.Curve.{Curve}
use Rattle.tpm_keys.specs.declared.kinds.Curve.TheVariants.{P256, P384, P521}
use Rattle.tpm_keys.specs.declared.kinds.KeyType.{KeyType}
use Rattle.tpm_keys.specs.declared.kinds.KeyType.TheVariants.{Rsa, Ecc}
use Rattle.tpm_keys.specs.declared.kinds.SchemeKind.{SchemeKind}
use Rattle.tpm_keys.specs.declared.kinds.SchemeKind.TheVariants.{Unset, Rsaes, Rsassa, Rsapss, Oaep, Ecdsa, Ecdh}

-- ---- types

abbrev pub type_id : KeyType → ℕ
type_id Rsa = 0x0001
type_id Ecc = 0x0023

-- The type with this number.
abbrev pub type_with : ℕ → Option KeyType
type_with id = find (λ type. type_id type == id) (Rsa ∷ Ecc ∷ [])

-- ---- schemes

abbrev pub scheme_id : SchemeKind → ℕ
scheme_id Unset = 0x0010
scheme_id Rsassa = 0x0014
scheme_id Rsaes = 0x0015
scheme_id Rsapss = 0x0016
scheme_id Oaep = 0x0017
scheme_id Ecdsa = 0x0018
scheme_id Ecdh = 0x0019

-- The schemes that keys of a type may have (TPM 2.0 Library, part 2, TPMT_RSA_SCHEME and TPMT_ECC_SCHEME), of those that this project knows.
abbrev pub schemes_of : KeyType → List SchemeKind
schemes_of Rsa = Unset ∷ Rsassa ∷ Rsaes ∷ Rsapss ∷ Oaep ∷ []
schemes_of Ecc = Unset ∷ Ecdsa ∷ Ecdh ∷ []

-- The scheme of a key of this type with this number.
abbrev pub scheme_with : KeyType → ℕ → Option SchemeKind
scheme_with type id = find (λ scheme. scheme_id scheme == id) (schemes_of type)

-- Whether a hash belongs to the scheme.
abbrev pub has_hash : SchemeKind → Bool
has_hash Unset = false
has_hash Rsaes = false
has_hash kind = true

-- Whether keys sign by it.
abbrev pub is_signing : SchemeKind → Bool
is_signing Rsassa = true
is_signing Rsapss = true
is_signing Ecdsa = true
is_signing kind = false

-- Its name, as tpm2-tools have it.
abbrev pub scheme_name : SchemeKind → List ℕ
scheme_name Unset = codes "none"
scheme_name Rsaes = codes "rsaes"
scheme_name Rsassa = codes "rsassa"
scheme_name Rsapss = codes "rsapss"
scheme_name Oaep = codes "oaep"
scheme_name Ecdsa = codes "ecdsa"
scheme_name Ecdh = codes "ecdh"

-- ---- curves

abbrev pub curve_id : Curve → ℕ
curve_id P256 = 0x0003
curve_id P384 = 0x0004
curve_id P521 = 0x0005

-- The curve with this number.
abbrev pub curve_with : ℕ → Option Curve
curve_with id = find (λ curve. curve_id curve == id) (P256 ∷ P384 ∷ P521 ∷ [])

-- How many bits a coordinate has (FIPS 186-4, appendix D.1.2), and how many bytes.
abbrev pub curve_bits : Curve → ℕ
curve_bits P256 = 256
curve_bits P384 = 384
curve_bits P521 = 521

abbrev pub coordinate_size : Curve → ℕ
coordinate_size P256 = 32
coordinate_size P384 = 48
coordinate_size P521 = 66
