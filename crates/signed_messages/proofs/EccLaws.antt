-- Signatures by keys on a curve, as they are spelled.
use Rattle.std.proofs.Common.{◌≡◌, ℕ, List, Option, Some, Result, Ok, Err, sym, subst, ap, ◌∙◌, inl, inr}
use Rattle.std.specs.Prelude.{IfErr, IsOk}
use Rattle.signature_hashes.specs.declared.hashes.Hash.{Hash}
use Rattle.tpm_signatures.specs.Spelling.{IsSignature, TpmSignature}
use Rattle.tpm_signatures.proofs.SignatureLaws.{one_reading}
use Rattle.signed_messages.specs.declared.refusal.SignatureRefusal.{SignatureRefusal}
use Rattle.signed_messages.specs.declared.refusal.SignatureRefusal.TheVariants.{NotSigned}
use Rattle.signed_messages.specs.Keys.{EccKey, hash_with}
use Rattle.signed_messages.specs.Plain.{IsPlain}
use Rattle.signed_messages.specs.Signing.{IsSignedByEcc, IsValidEcdsa, TakesEcdsa, stated_ecdsa}
use Rattle.signed_messages.specs.Refusals.{HasOtherEcdsaHash, IsEccRefusal, ReachesEccVerification, IsOtherThanEcdsa, ecdsa_numbers}
use Rattle.signed_messages.proofs.SigningLaws.{hash_with-alg_of}
use Rattle.signed_messages.proofs.PlainLaws.{not_stated, one_plain}

-- ---- the numbers alone

-- Bytes that are the numbers alone of a signature are signed by these numbers.
pub signed_plainly : (key : EccKey) (message bytes r s : List ℕ) → IsPlain bytes r s → IsSignedByEcc key message bytes
    → (hash : Hash) × TakesEcdsa key.hash hash × IsValidEcdsa key hash message r s
signed_plainly key message bytes r s is signed =
    elim signed.spelled [
      | inl plain ↦
          let same = one_plain bytes signed.r signed.s (r, s) plain is in (
            signed.hash,
            signed.taken,
            subst (λ (x : List ℕ × List ℕ). IsValidEcdsa key signed.hash message x.0 x.1) same signed.valid,
          )
      | inr states ↦ absurd (not_stated bytes r s (stated_ecdsa signed.hash signed.r signed.s) is states)
    ]

-- ---- what is stated

abbrev the_some : {X : Type 0} → X → Option X
the_some x = Some x

some_is : {X : Type 0} (x y : X) → the_some x ≡ the_some y → x ≡ y
some_is x y e = cc

same_hash : (a b : Hash) (r s x y : List ℕ) → stated_ecdsa a r s ≡ stated_ecdsa b x y → a ≡ b
same_hash a b r s x y e =
    some_is a b (sym (hash_with-alg_of a) ∙ ap (λ (t : TpmSignature). hash_with t.hash) e ∙ hash_with-alg_of b)

abbrev the_pair : List ℕ → List ℕ → List ℕ × List ℕ
the_pair r s = (r, s)

same_numbers : (a b : Hash) (r s x y : List ℕ) → stated_ecdsa a r s ≡ stated_ecdsa b x y → the_pair r s ≡ the_pair x y
same_numbers a b r s x y e = some_is (the_pair r s) (the_pair x y) (ap (λ (t : TpmSignature). ecdsa_numbers t.numbers) e)

-- Bytes that are not the numbers alone are signed as they state.
pub signed_as_stated : (key : EccKey) (message bytes : List ℕ) (hash : Hash) (r s : List ℕ) (read : TpmSignature)
    → ((x y : List ℕ) → IsPlain bytes x y → ⊥) → IsSignature bytes read → read ≡ stated_ecdsa hash r s → IsSignedByEcc key message bytes
    → IsValidEcdsa key hash message r s
signed_as_stated key message bytes hash r s read not is e signed =
    elim signed.spelled [
      | inl plain ↦ absurd (not signed.r signed.s plain)
      | inr states ↦
          let same = one_reading bytes (stated_ecdsa signed.hash signed.r signed.s) read states is ∙ e in
          subst (λ (h : Hash). IsValidEcdsa key h message r s) (same_hash signed.hash hash signed.r signed.s r s same)
          (subst (λ (x : List ℕ × List ℕ). IsValidEcdsa key signed.hash message x.0 x.1) (same_numbers signed.hash hash signed.r signed.s r s same) signed.valid)
    ]

-- Such bytes state a signature.
pub it_states : (key : EccKey) (message bytes : List ℕ) → ((x y : List ℕ) → IsPlain bytes x y → ⊥) → (signed : IsSignedByEcc key message bytes)
    → IsSignature bytes (stated_ecdsa signed.hash signed.r signed.s)
it_states key message bytes not signed =
    elim signed.spelled [
      | inl plain ↦ absurd (not signed.r signed.s plain)
      | inr states ↦ states
    ]

by_ecdsa : (hash : Hash) (r s : List ℕ) → IsOtherThanEcdsa (stated_ecdsa hash r s) → ⊥
by_ecdsa hash r s other = cc

with_its_hash : (its : Option Hash) (hash : Hash) (r s : List ℕ) → TakesEcdsa its hash → HasOtherEcdsaHash its (stated_ecdsa hash r s) → ⊥
with_its_hash its hash r s takes other = other.1 hash takes (hash_with-alg_of hash)

-- A signature that states a hash of the key is verified.
pub verified_stated : (key : EccKey) (bytes : List ℕ) (hash : Hash) (r s : List ℕ) (read : TpmSignature) → IsSignature bytes read
    → TakesEcdsa key.hash hash → read ≡ stated_ecdsa hash r s → ReachesEccVerification key bytes
verified_stated key bytes hash r s read is takes same = inr (
  read,
  is,
  subst (λ (t : TpmSignature). IsOtherThanEcdsa t → ⊥) (sym same) (by_ecdsa hash r s),
  subst (λ (t : TpmSignature). HasOtherEcdsaHash key.hash t → ⊥) (sym same) (with_its_hash key.hash hash r s takes),
)

-- ---- what is refused

abbrev the_refusal : SignatureRefusal → Result Unit SignatureRefusal
the_refusal refusal = Err refusal

not_ok : (refusal : SignatureRefusal) → IsOk (the_refusal refusal) → ⊥
not_ok refusal ok = cc

-- What is verified and not taken is not signed.
pub refused_ecc : (key : EccKey) (message bytes : List ℕ) (r : Result Unit SignatureRefusal) → IfErr r (λ refusal. refusal ≡ NotSigned)
    → ReachesEccVerification key bytes → (IsSignedByEcc key message bytes → IsOk r) → IfErr r (IsEccRefusal key message bytes)
refused_ecc key message bytes (Ok x) said is_verified only = tt
refused_ecc key message bytes (Err refusal) said is_verified only =
    subst (λ (it : SignatureRefusal). IsEccRefusal key message bytes it) (sym said) (is_verified, λ signed. absurd (not_ok refusal (only signed)))
