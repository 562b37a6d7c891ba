-- Keys as text, and messages signed by them.
use Rattle.std.specs.Prelude.{◌≡◌, ℕ, ◌⊎◌, Bool, true, false, nat_eq, List, Some, None, codes}
use Rattle.std.specs.List.{starts_with}
use Rattle.byte_fields.specs.Spelling.{IsBytes}
use Rattle.tpm_keys.specs.declared.kinds.Purpose.TheVariants.{Attestation}
use Rattle.tpm_keys.specs.KeyInfo.{key_pem}
use Rattle.tpm_keys.specs.Purposes.{lack}
use Rattle.tpm_keys.specs.Reading.{key_fault}
use Rattle.tpm_keys.specs.Spelling.{IsPublicArea, KeyArea, KeyNumbers, RsaNumbers, EccNumbers}
use Rattle.signed_messages.specs.declared.check_fault.CheckFault.{CheckFault}
use Rattle.signed_messages.specs.declared.check_fault.CheckFault.TheVariants.{Key, Signature, Memory}
use Rattle.signed_messages.specs.declared.refusal.SignatureRefusal.{SignatureRefusal}
use Rattle.signed_messages.specs.declared.refusal.SignatureRefusal.TheVariants.{OtherKey, OtherPem}
use Rattle.signed_messages.specs.Keys.{MessageKey, key_alone, key_in}
use Rattle.signed_messages.specs.Signing.{IsSignedBy}
use Rattle.signed_messages.specs.Refusals.{IsRefusal}

-- ---- the public area of an attestation key

-- The bytes are the public area of an attestation key that lacks nothing, and this is the key.
pub record IsKeyArea (bytes : List ℕ) (key : MessageKey) : Type 0 where
  pub area : KeyArea
  pub is : IsPublicArea bytes area
  pub lacks_nothing : lack Attestation area ≡ None
  pub known : key_in area ≡ Some key

-- ---- PEM

abbrev pub AreBytes : KeyNumbers → Type 0
AreBytes (RsaNumbers exponent modulus) = IsBytes modulus
AreBytes (EccNumbers curve x y) = IsBytes x × IsBytes y

-- The bytes are the PEM of this key, of which scheme and hash are not known.
pub record IsKeyPem (bytes : List ℕ) (key : MessageKey) : Type 0 where
  pub numbers : KeyNumbers
  pub are_bytes : AreBytes numbers
  pub known : key_alone numbers ≡ Some key
  pub spelled : bytes ≡ key_pem numbers

-- The bytes begin as PEM does (RFC 7468, section 2).
abbrev pub is_pem : List ℕ → Bool
is_pem bytes = starts_with nat_eq bytes (codes "-----BEGIN")

-- ---- either

-- The bytes state this key.
abbrev pub IsKeyText : List ℕ → MessageKey → Type 0
IsKeyText bytes key = IsKeyArea bytes key ⊎ IsKeyPem bytes key

-- The bytes are a signature of the message by the key of this public area.
abbrev pub IsSignedByArea : List ℕ → List ℕ → List ℕ → Type 0
IsSignedByArea area message signature = (key : MessageKey) × IsKeyArea area key × IsSignedBy key message signature

-- The bytes are a signature of the message by the key of this PEM.
abbrev pub IsSignedByPem : List ℕ → List ℕ → List ℕ → Type 0
IsSignedByPem pem message signature = (key : MessageKey) × IsKeyPem pem key × IsSignedBy key message signature

-- The bytes are a signature of the message by the key that this text states.
abbrev pub IsSignedByText : List ℕ → List ℕ → List ℕ → Type 0
IsSignedByText text message signature = (key : MessageKey) × IsKeyText text key × IsSignedBy key message signature

-- ---- refusals

-- The refusal of a public area, or of a signature by its key.
abbrev pub IsAreaRefusal : List ℕ → List ℕ → List ℕ → SignatureRefusal → Type 0
IsAreaRefusal bytes message signature OtherKey =
    (area : KeyArea) × IsPublicArea bytes area × (lack Attestation area ≡ None) × (key_in area ≡ None)
IsAreaRefusal bytes message signature refusal = (key : MessageKey) × IsKeyArea bytes key × IsRefusal key message signature refusal

abbrev pub IsAreaFault : List ℕ → List ℕ → List ℕ → CheckFault → Type 0
IsAreaFault bytes message signature (Key fault) = key_fault Attestation bytes ≡ Some fault
IsAreaFault bytes message signature (Signature refusal) = IsAreaRefusal bytes message signature refusal
IsAreaFault bytes message signature Memory = ⊥

-- The refusal of PEM, or of a signature by its key.
abbrev pub IsPemRefusal : List ℕ → List ℕ → List ℕ → SignatureRefusal → Type 0
IsPemRefusal pem message signature OtherPem = (key : MessageKey) → IsKeyPem pem key → ⊥
IsPemRefusal pem message signature refusal = (key : MessageKey) × IsKeyPem pem key × IsRefusal key message signature refusal

abbrev pub IsPemFault : List ℕ → List ℕ → List ℕ → CheckFault → Type 0
IsPemFault pem message signature (Key fault) = ⊥
IsPemFault pem message signature (Signature refusal) = IsPemRefusal pem message signature refusal
IsPemFault pem message signature Memory = Unit {0}

abbrev pub IsFaultOf : Bool → List ℕ → List ℕ → List ℕ → CheckFault → Type 0
IsFaultOf true text message signature fault = IsPemFault text message signature fault
IsFaultOf false text message signature fault = IsAreaFault text message signature fault

-- Why the bytes are not taken as a signature of the message by the key that this text states: the first reason that holds. Bytes that begin as PEM
-- does are looked at as PEM, and as nothing else; others as a public area.
abbrev pub IsCheckFault : List ℕ → List ℕ → List ℕ → CheckFault → Type 0
IsCheckFault text message signature fault = IsFaultOf (is_pem text) text message signature fault
