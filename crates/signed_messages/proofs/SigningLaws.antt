-- Signatures as they are spelled, and the schemes that a key takes.
use Rattle.std.proofs.Common.{◌≡◌, ℕ, ◌↔◌, Bool, IsTrue, List, length, Option, Some, None, Result, Ok, Err, refl, sym, subst, ap, ◌∙◌, inl, inr}
use Rattle.signature_hashes.specs.declared.hashes.Hash.{Hash}
use Rattle.signature_hashes.specs.declared.hashes.Hash.TheVariants.{Sha256, Sha384, Sha512}
use Rattle.tpm_signatures.specs.declared.fault.SignatureFault.{SignatureFault}
use Rattle.tpm_signatures.specs.Spelling.{IsSignature, TpmSignature}
use Rattle.tpm_signatures.proofs.SignatureLaws.{one_reading}
use Rattle.std.specs.Prelude.{IfErr, IsOk}
use Rattle.signed_messages.specs.declared.refusal.SignatureRefusal.{SignatureRefusal}
use Rattle.signed_messages.specs.declared.refusal.SignatureRefusal.TheVariants.{NotSigned}
use Rattle.signed_messages.specs.declared.key.RsaScheme.{RsaScheme}
use Rattle.signed_messages.specs.declared.key.RsaScheme.TheVariants.{Pkcs1, Pss}
use Rattle.signed_messages.specs.declared.key.SigningScheme.{SigningScheme}
use Rattle.signed_messages.specs.Keys.{RsaKey, hash_with}
use Rattle.signed_messages.specs.Signing.{IsSignedByRsa, IsValid, Takes, alg_of, numbers_by, stated}
use Rattle.signed_messages.specs.Refusals.{HasOtherHash, HasOtherScheme, IsRsaRefusal, ReachesRsaVerification, TakesHash, TakesKind, rsa_number}

-- ---- sizes

number_size : (kind : RsaScheme) (hash : Hash) (modulus message number : List ℕ) → IsValid kind hash modulus message number → length number ≡ length modulus
number_size Pkcs1 hash modulus message number valid = valid.1.size
number_size Pss hash modulus message number valid = valid.1.size

-- A signature that has not the modulus's size is stated by scheme, hash and number.
pub stated_so : (key : RsaKey) (message bytes : List ℕ) → (length bytes ≡ length key.modulus → ⊥) → (is : IsSignedByRsa key message bytes)
    → IsSignature bytes (stated is.scheme is.number)
stated_so key message bytes other is =
    elim is.spelled [
      | inl same ↦
          absurd (other (ap (λ (xs : List ℕ). length xs) same ∙ number_size is.scheme.kind is.scheme.hash key.modulus message is.number is.valid))
      | inr states ↦ states
    ]

-- ---- what is stated

rsa_number-by : (kind : RsaScheme) (number : List ℕ) → rsa_number (numbers_by kind number) ≡ Some (kind, number)
rsa_number-by Pkcs1 number = refl
rsa_number-by Pss number = refl

pub hash_with-alg_of : (hash : Hash) → hash_with (alg_of hash) ≡ Some hash
hash_with-alg_of Sha256 = refl
hash_with-alg_of Sha384 = refl
hash_with-alg_of Sha512 = refl

takes_its_kind : (its : Option SigningScheme) (scheme : SigningScheme) → Takes its scheme → TakesKind its scheme.kind
takes_its_kind None scheme takes = tt
takes_its_kind (Some its) scheme takes = ap (λ (s : SigningScheme). s.kind) takes

takes_its_hash : (its : Option SigningScheme) (scheme : SigningScheme) → Takes its scheme → TakesHash its scheme.hash
takes_its_hash None scheme takes = tt
takes_its_hash (Some its) scheme takes = ap (λ (s : SigningScheme). s.hash) takes

-- A signature by a scheme that the key takes has neither another scheme nor another hash.
no_other_scheme : (its : Option SigningScheme) (scheme : SigningScheme) (number : List ℕ) → Takes its scheme
    → HasOtherScheme its (stated scheme number) → ⊥
no_other_scheme its scheme number takes other = other scheme.kind number (takes_its_kind its scheme takes) (rsa_number-by scheme.kind number)

no_other_hash : (its : Option SigningScheme) (scheme : SigningScheme) (number : List ℕ) → Takes its scheme
    → HasOtherHash its (stated scheme number) → ⊥
no_other_hash its scheme number takes other = other.1 scheme.hash (takes_its_hash its scheme takes) (hash_with-alg_of scheme.hash)

-- ---- one hash of three

only : (P : Hash → RsaScheme → Type 0) (b : Bool) → (((kind : RsaScheme) × P Sha256 kind) → ⊥) → (((kind : RsaScheme) × P Sha384 kind) → ⊥)
    → (IsTrue b ↔ ((kind : RsaScheme) × P Sha512 kind)) → (hash : Hash) (kind : RsaScheme) → P hash kind → IsTrue b
only P b first second third Sha256 kind p = absurd (first (kind, p))
only P b first second third Sha384 kind p = absurd (second (kind, p))
only P b first second third Sha512 kind p = third.1 (kind, p)

pub last_hash : (P : Hash → RsaScheme → Type 0) (b : Bool) → (((kind : RsaScheme) × P Sha256 kind) → ⊥) → (((kind : RsaScheme) × P Sha384 kind) → ⊥)
    → (IsTrue b ↔ ((kind : RsaScheme) × P Sha512 kind)) → IsTrue b ↔ ((hash : Hash) × (kind : RsaScheme) × P hash kind)
last_hash P b first second third = (
  λ t. let found = third.0 t in (Sha512, found.0, found.1),
  λ found. only P b first second third found.0 found.1 found.2,
)

-- ---- what the reader refuses

abbrev the_signature : TpmSignature → Result TpmSignature SignatureFault
the_signature signature = Ok signature

-- What is read has no fault.
pub read_has_no_fault : (signature : TpmSignature) (fault : SignatureFault) → the_signature signature ≡ Err fault → ⊥
read_has_no_fault signature fault e = cc

-- A signature by the key is not refused for its scheme or its hash.
pub not_refused : (key : RsaKey) (message bytes : List ℕ) (read : TpmSignature) → (length bytes ≡ length key.modulus → ⊥) → IsSignature bytes read
    → IsSignedByRsa key message bytes → (HasOtherScheme key.scheme read → ⊥) × (HasOtherHash key.scheme read → ⊥)
not_refused key message bytes read other is signed =
    let same = one_reading bytes (stated signed.scheme signed.number) read (stated_so key message bytes other signed) is in (
      subst (λ (s : TpmSignature). HasOtherScheme key.scheme s → ⊥) same (no_other_scheme key.scheme signed.scheme signed.number signed.taken),
      subst (λ (s : TpmSignature). HasOtherHash key.scheme s → ⊥) same (no_other_hash key.scheme signed.scheme signed.number signed.taken),
    )

-- A signature that states a scheme and a hash of the key is verified.
pub verified : (key : RsaKey) (bytes : List ℕ) (scheme : SigningScheme) (number : List ℕ) (read : TpmSignature) → IsSignature bytes read
    → Takes key.scheme scheme → read ≡ stated scheme number → ReachesRsaVerification key bytes
verified key bytes scheme number read is takes same = inr (
  read,
  is,
  subst (λ (s : TpmSignature). HasOtherScheme key.scheme s → ⊥) (sym same) (no_other_scheme key.scheme scheme number takes),
  subst (λ (s : TpmSignature). HasOtherHash key.scheme s → ⊥) (sym same) (no_other_hash key.scheme scheme number takes),
)

abbrev the_refusal : SignatureRefusal → Result Unit SignatureRefusal
the_refusal refusal = Err refusal

not_ok : (refusal : SignatureRefusal) → IsOk (the_refusal refusal) → ⊥
not_ok refusal ok = cc

-- What is verified and not taken is not signed.
pub refused : (key : RsaKey) (message bytes : List ℕ) (r : Result Unit SignatureRefusal) → IfErr r (λ refusal. refusal ≡ NotSigned) → ReachesRsaVerification key bytes
    → (IsSignedByRsa key message bytes → IsOk r) → IfErr r (IsRsaRefusal key message bytes)
refused key message bytes (Ok x) said is_verified only = tt
refused key message bytes (Err refusal) said is_verified only =
    subst (λ (it : SignatureRefusal). IsRsaRefusal key message bytes it) (sym said) (is_verified, λ signed. absurd (not_ok refusal (only signed)))
