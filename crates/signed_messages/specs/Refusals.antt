-- Why a message is not taken as signed.
use Rattle.std.specs.Prelude.{◌≡◌, ℕ, ◌⊎◌, List, length, Option, Some, None}
use Rattle.tpm_signatures.specs.Faults.{signature_fault_number}
use Rattle.tpm_signatures.specs.Reading.{signature_fault}
use Rattle.tpm_signatures.specs.Spelling.{IsSignature, TpmNumbers, RsassaNumber, RsapssNumber, EcdsaNumbers, TpmSignature}
use Rattle.signature_hashes.specs.declared.hashes.Hash.{Hash}
use Rattle.signed_messages.specs.declared.key.RsaScheme.{RsaScheme}
use Rattle.signed_messages.specs.declared.key.RsaScheme.TheVariants.{Pkcs1, Pss}
use Rattle.signed_messages.specs.declared.key.SigningScheme.{SigningScheme}
use Rattle.signed_messages.specs.declared.refusal.SignatureRefusal.{SignatureRefusal}
use Rattle.signed_messages.specs.declared.refusal.SignatureRefusal.TheVariants.{Bytes, OtherScheme, OtherHash, NotSigned, OtherKey, OtherPem}
use Rattle.signed_messages.specs.Keys.{EccKey, MessageKey, ByRsa, ByEcc, RsaKey, hash_with}
use Rattle.signed_messages.specs.Plain.{IsPlain}
use Rattle.signed_messages.specs.Signing.{IsSignedByEcc, IsSignedByRsa, TakesEcdsa}

-- A refusal's number (this project's choice).
abbrev pub signature_refusal_number : SignatureRefusal → ℕ
signature_refusal_number (Bytes fault) = signature_fault_number fault
signature_refusal_number OtherScheme = 5
signature_refusal_number OtherHash = 6
signature_refusal_number NotSigned = 7
signature_refusal_number OtherKey = 8
signature_refusal_number OtherPem = 9

-- ---- by an RSA key

-- How an RSA key made a signature with these numbers, and its number.
abbrev pub rsa_number : TpmNumbers → Option (RsaScheme × List ℕ)
rsa_number (RsassaNumber number) = Some (Pkcs1, number)
rsa_number (RsapssNumber number) = Some (Pss, number)
rsa_number (EcdsaNumbers r s) = None

-- The key signs so, or nothing is known of that.
abbrev pub TakesKind : Option SigningScheme → RsaScheme → Type 0
TakesKind None kind = Unit {0}
TakesKind (Some its) kind = its.kind ≡ kind

-- The key signs with this hash, or nothing is known of that.
abbrev pub TakesHash : Option SigningScheme → Hash → Type 0
TakesHash None hash = Unit {0}
TakesHash (Some its) hash = its.hash ≡ hash

-- The signature is made in no way in which the key signs.
abbrev pub HasOtherScheme : Option SigningScheme → TpmSignature → Type 0
HasOtherScheme its signature = (kind : RsaScheme) (number : List ℕ) → TakesKind its kind → rsa_number signature.numbers ≡ Some (kind, number) → ⊥

-- It is made in a way in which the key signs, with no hash with which it does.
abbrev pub HasOtherHash : Option SigningScheme → TpmSignature → Type 0
HasOtherHash its signature =
    (HasOtherScheme its signature → ⊥) × ((hash : Hash) → TakesHash its hash → hash_with signature.hash ≡ Some hash → ⊥)

-- The bytes are a number alone; or they state a signature with neither fault.
abbrev pub ReachesRsaVerification : RsaKey → List ℕ → Type 0
ReachesRsaVerification key bytes =
    (length bytes ≡ length key.modulus)
    ⊎ ((signature : TpmSignature) × IsSignature bytes signature × (HasOtherScheme key.scheme signature → ⊥) × (HasOtherHash key.scheme signature → ⊥))

-- The refusal of these bytes as a signature of the message by an RSA key: the first that holds. Bytes as many as the modulus has are the number
-- alone, which has only the last.
abbrev pub IsRsaRefusal : RsaKey → List ℕ → List ℕ → SignatureRefusal → Type 0
IsRsaRefusal key message bytes (Bytes fault) = (length bytes ≡ length key.modulus → ⊥) × (signature_fault bytes ≡ Some fault)
IsRsaRefusal key message bytes OtherScheme =
    (length bytes ≡ length key.modulus → ⊥) × ((signature : TpmSignature) × IsSignature bytes signature × HasOtherScheme key.scheme signature)
IsRsaRefusal key message bytes OtherHash =
    (length bytes ≡ length key.modulus → ⊥) × ((signature : TpmSignature) × IsSignature bytes signature × HasOtherHash key.scheme signature)
IsRsaRefusal key message bytes NotSigned = ReachesRsaVerification key bytes × (IsSignedByRsa key message bytes → ⊥)
IsRsaRefusal key message bytes OtherKey = ⊥
IsRsaRefusal key message bytes OtherPem = ⊥

-- ---- by a key on a curve

-- The numbers of a signature, if it is by ECDSA.
abbrev pub ecdsa_numbers : TpmNumbers → Option (List ℕ × List ℕ)
ecdsa_numbers (EcdsaNumbers r s) = Some (r, s)
ecdsa_numbers numbers = None

-- It is by another scheme than ECDSA.
abbrev pub IsOtherThanEcdsa : TpmSignature → Type 0
IsOtherThanEcdsa signature = ecdsa_numbers signature.numbers ≡ None

-- It is by ECDSA, with no hash with which the key signs.
abbrev pub HasOtherEcdsaHash : Option Hash → TpmSignature → Type 0
HasOtherEcdsaHash its signature =
    (IsOtherThanEcdsa signature → ⊥) × ((hash : Hash) → TakesEcdsa its hash → hash_with signature.hash ≡ Some hash → ⊥)

-- The bytes are the numbers alone; or they state a signature with neither fault.
abbrev pub ReachesEccVerification : EccKey → List ℕ → Type 0
ReachesEccVerification key bytes =
    ((r : List ℕ) × (s : List ℕ) × IsPlain bytes r s)
    ⊎ ((signature : TpmSignature) × IsSignature bytes signature × (IsOtherThanEcdsa signature → ⊥) × (HasOtherEcdsaHash key.hash signature → ⊥))

-- The refusal of these bytes as a signature of the message by a key on a curve: the first that holds.
abbrev pub IsEccRefusal : EccKey → List ℕ → List ℕ → SignatureRefusal → Type 0
IsEccRefusal key message bytes (Bytes fault) = ((r s : List ℕ) → IsPlain bytes r s → ⊥) × (signature_fault bytes ≡ Some fault)
IsEccRefusal key message bytes OtherScheme = (signature : TpmSignature) × IsSignature bytes signature × IsOtherThanEcdsa signature
IsEccRefusal key message bytes OtherHash = (signature : TpmSignature) × IsSignature bytes signature × HasOtherEcdsaHash key.hash signature
IsEccRefusal key message bytes NotSigned = ReachesEccVerification key bytes × (IsSignedByEcc key message bytes → ⊥)
IsEccRefusal key message bytes OtherKey = ⊥
IsEccRefusal key message bytes OtherPem = ⊥

-- ---- by either

-- The refusal of these bytes as a signature of the message: the first that holds.
abbrev pub IsRefusal : MessageKey → List ℕ → List ℕ → SignatureRefusal → Type 0
IsRefusal (ByRsa key) message bytes refusal = IsRsaRefusal key message bytes refusal
IsRefusal (ByEcc key) message bytes refusal = IsEccRefusal key message bytes refusal
