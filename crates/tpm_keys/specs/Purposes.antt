-- What a key must be to be an attestation key, with which a TPM signs only what it made, or an endorsement key, with which it decrypts only
-- what is meant for it.
use Rattle.std.specs.Prelude.{◌≡◌, ℕ, ◌*◌, Bool, true, false, not, ◌==◌, nat_lt, List, [], ◌∷◌, ◌++◌, length, find, Option, Some, None, option_map, Result, Ok, Err}
use Rattle.std.specs.Int.{bit_at}
use Rattle.pcr_banks.specs.declared.alg.Alg.TheVariants.{Sha1}
use Rattle.pcr_banks.specs.Names.{same_alg}
use Rattle.std.specs.Option.{option_map_or}
use Rattle.tpm_keys.specs.declared.fault.KeyFault.{KeyFault}
use Rattle.tpm_keys.specs.declared.fault.KeyFault.TheVariants.{WeakName, LeavesTpm, LeavesParent, NotMadeByTpm, Unrestricted, ShortKey, DoesNotSign, Decrypts, NoSigningScheme, WeakHash, Signs, DoesNotDecrypt}
use Rattle.tpm_keys.specs.declared.kinds.Purpose.{Purpose}
use Rattle.tpm_keys.specs.declared.kinds.Purpose.TheVariants.{Attestation, Endorsement}
use Rattle.tpm_keys.specs.Kinds.{is_signing}
use Rattle.tpm_keys.specs.Spelling.{KeyArea, KeyNumbers, RsaNumbers, EccNumbers}

-- The attributes, by the numbers of their bits (TPM 2.0 Library, part 2, TPMA_OBJECT).
abbrev pub fixed_tpm : ℕ
fixed_tpm = 1

abbrev pub fixed_parent : ℕ
fixed_parent = 4

abbrev pub sensitive_data_origin : ℕ
sensitive_data_origin = 5

abbrev pub restricted : ℕ
restricted = 16

abbrev pub decrypt : ℕ
decrypt = 17

abbrev pub sign : ℕ
sign = 18

abbrev pub has : KeyArea → ℕ → Bool
has area attribute = bit_at area.attributes attribute == 1

-- Whether it is an RSA key of fewer than 2,048 bits.
abbrev pub is_short : KeyNumbers → Bool
is_short (RsaNumbers exponent modulus) = nat_lt (8 * length modulus) 2048
is_short (EccNumbers curve x y) = false

abbrev pub is_sha1_scheme : KeyArea → Bool
is_sha1_scheme area = option_map_or (same_alg Sha1) area.scheme.hash false

-- What may be wrong with any key: whether it is, and what it is called. Part 1, 'Object Attributes' says what each attribute means.
abbrev pub lacks_of_any : KeyArea → List (Bool × KeyFault)
lacks_of_any area =
    (same_alg Sha1 area.name_alg, WeakName)
    ∷ (not (has area fixed_tpm), LeavesTpm)
    ∷ (not (has area fixed_parent), LeavesParent)
    ∷ (not (has area sensitive_data_origin), NotMadeByTpm)
    ∷ (not (has area restricted), Unrestricted)
    ∷ (is_short area.numbers, ShortKey)
    ∷ []

-- And with one for this purpose.
abbrev pub lacks_for : Purpose → KeyArea → List (Bool × KeyFault)
lacks_for Attestation area =
    (not (has area sign), DoesNotSign)
    ∷ (has area decrypt, Decrypts)
    ∷ (not (is_signing area.scheme.kind), NoSigningScheme)
    ∷ (is_sha1_scheme area, WeakHash)
    ∷ []
lacks_for Endorsement area = (has area sign, Signs) ∷ (not (has area decrypt), DoesNotDecrypt) ∷ []

-- The first of them that holds.
abbrev pub first_of : List (Bool × KeyFault) → Option KeyFault
first_of lacks = option_map (λ lack. lack.1) (find (λ lack. lack.0) lacks)

-- The first thing that is wrong with it, for this purpose.
abbrev pub lack : Purpose → KeyArea → Option KeyFault
lack purpose area = first_of (lacks_of_any area ++ lacks_for purpose area)

-- The area, if nothing is.
abbrev pub sound_by : Option KeyFault → KeyArea → Result KeyArea KeyFault
sound_by None area = Ok area
sound_by (Some fault) area = Err fault

abbrev pub sound : Purpose → KeyArea → Result KeyArea KeyFault
sound purpose area = sound_by (lack purpose area) area

-- A key with which a TPM signs only what it made: never what it was given that looks like a quote (part 1, 'Restricted Attribute').
pub record IsAttestationKey (area : KeyArea) : Type 0 where
  pub named_well : same_alg Sha1 area.name_alg ≡ false
  pub stays_in_its_tpm : has area fixed_tpm ≡ true
  pub stays_below_its_parent : has area fixed_parent ≡ true
  pub made_by_its_tpm : has area sensitive_data_origin ≡ true
  pub is_restricted : has area restricted ≡ true
  pub is_long : is_short area.numbers ≡ false
  pub signs : has area sign ≡ true
  pub does_not_decrypt : has area decrypt ≡ false
  pub has_signing_scheme : is_signing area.scheme.kind ≡ true
  pub signs_by_strong_hash : is_sha1_scheme area ≡ false
