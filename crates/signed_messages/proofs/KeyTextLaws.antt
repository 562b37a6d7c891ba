-- Keys as text, and what is refused of them.
use Rattle.std.proofs.Common.{◌≡◌, ℕ, ◌⊎◌, Bool, true, false, List, ◌++◌, drop, codes, Result, Ok, Err, refl, sym, subst, ap, ◌∙◌, inl, inr, arith}
use Rattle.std.specs.Prelude.{IfErr, slice_index}
use Rattle.std.proofs.lemmas.Bool.{true≢false}
use Rattle.std.proofs.lemmas.Bool.Decides.{Decides-eqb}
use Rattle.std.proofs.lemmas.Slice.Eq.{starts_is}
use Rattle.tpm_keys.specs.Spelling.{Holds, KeyArea, KeyNumbers, RsaNumbers, EccNumbers, area_spelling}
use Rattle.tpm_keys.specs.KeyInfo.{key_pem}
use Rattle.signed_messages.specs.declared.check_fault.CheckFault.{CheckFault}
use Rattle.signed_messages.specs.declared.check_fault.CheckFault.TheVariants as faults
use Rattle.signed_messages.specs.declared.refusal.SignatureRefusal.{SignatureRefusal}
use Rattle.signed_messages.specs.declared.refusal.SignatureRefusal.TheVariants.{Bytes, OtherScheme, OtherHash, NotSigned, OtherKey, OtherPem}
use Rattle.signed_messages.specs.Keys.{MessageKey, ByRsa, ByEcc}
use Rattle.signed_messages.specs.Refusals.{IsRefusal}
use Rattle.signed_messages.specs.KeyTexts.{IsAreaFault, IsCheckFault, IsFaultOf, IsKeyArea, IsKeyPem, IsPemFault, IsSignedByArea, IsSignedByPem, IsSignedByText, is_pem}

-- ---- faults of PEM

-- Memory ran out, or no key is written so.
abbrev pub IsNoKey : List ℕ → CheckFault → Type 0
IsNoKey pem fault = (fault ≡ faults.Memory) ⊎ ((fault ≡ faults.Signature OtherPem) × ((key : MessageKey) → IsKeyPem pem key → ⊥))

pub only_memory : (pem message signature : List ℕ) (fault : CheckFault) → IsNoKey pem fault → IsSignedByPem pem message signature
    → fault ≡ faults.Memory
only_memory pem message signature fault (inl memory) signed = memory
only_memory pem message signature fault (inr other) signed = absurd (other.1 signed.0 signed.1)

pub no_key_fault : (pem message signature : List ℕ) (fault : CheckFault) → IsNoKey pem fault → IsPemFault pem message signature fault
no_key_fault pem message signature fault (inl memory) = subst (λ (f : CheckFault). IsPemFault pem message signature f) (sym memory) tt
no_key_fault pem message signature fault (inr other) = subst (λ (f : CheckFault). IsPemFault pem message signature f) (sym other.0) other.1

not_of_signature : (key : MessageKey) (message signature : List ℕ) → IsRefusal key message signature OtherPem → ⊥
not_of_signature (ByRsa key) message signature is = is
not_of_signature (ByEcc key) message signature is = is

pub refusal_fault : (pem message signature : List ℕ) (key : MessageKey) (refusal : SignatureRefusal) → IsKeyPem pem key
    → IsRefusal key message signature refusal → IsPemFault pem message signature (faults.Signature refusal)
refusal_fault pem message signature key (Bytes fault) is refused = (key, is, refused)
refusal_fault pem message signature key OtherScheme is refused = (key, is, refused)
refusal_fault pem message signature key OtherHash is refused = (key, is, refused)
refusal_fault pem message signature key NotSigned is refused = (key, is, refused)
refusal_fault pem message signature key OtherKey is refused = (key, is, refused)
refusal_fault pem message signature key OtherPem is refused = absurd (not_of_signature key message signature refused)

-- ---- public areas and PEM

-- Each byte of what begins as PEM does is a character of its first line.
begins : (bytes : List ℕ) → is_pem bytes ≡ true → bytes ≡ codes "-----BEGIN" ++ drop 10 bytes
begins bytes pem = (starts_is Decides-eqb bytes (codes "-----BEGIN") (is_pem bytes) refl).0 pem

area_first : (area : KeyArea) (numbers : KeyNumbers) → area.numbers ≡ numbers → slice_index (area_spelling area) 0 ≡ 0
area_first area (RsaNumbers e m) is = rw is refl
area_first area (EccNumbers c x y) is = rw is refl

-- No public area begins as PEM does, behind its size or bare.
not_held : (bytes : List ℕ) (area : KeyArea) → is_pem bytes ≡ true → Holds bytes (area_spelling area) → ⊥
not_held bytes area pem (inl (fits, parts)) =
    let dash : slice_index bytes 2 ≡ 0x2D = ap (λ (xs : List ℕ). slice_index xs 2) (begins bytes pem) in
    let zero_byte : slice_index bytes 2 ≡ 0 = ap (λ (xs : List ℕ). slice_index xs 2) parts ∙ area_first area area.numbers refl in
    absurd (omega (arith, dash, zero_byte))
not_held bytes area pem (inr parts) =
    let dash : slice_index bytes 0 ≡ 0x2D = ap (λ (xs : List ℕ). slice_index xs 0) (begins bytes pem) in
    let zero_byte : slice_index bytes 0 ≡ 0 = ap (λ (xs : List ℕ). slice_index xs 0) parts ∙ area_first area area.numbers refl in
    absurd (omega (arith, dash, zero_byte))

no_area : (bytes : List ℕ) (key : MessageKey) → is_pem bytes ≡ true → IsKeyArea bytes key → ⊥
no_area bytes key pem is = not_held bytes is.area pem is.is.spelled

pem_begins : (numbers : KeyNumbers) → is_pem (key_pem numbers) ≡ true
pem_begins numbers = refl

no_pem : (bytes : List ℕ) (key : MessageKey) → is_pem bytes ≡ false → IsKeyPem bytes key → ⊥
no_pem bytes key other is = true≢false (sym (pem_begins is.numbers) ∙ ap is_pem (sym is.spelled) ∙ other)

pub only_pem : (text message signature : List ℕ) → is_pem text ≡ true → IsSignedByText text message signature → IsSignedByPem text message signature
only_pem text message signature pem signed =
    elim signed.1 [
      | inl area ↦ absurd (no_area text signed.0 pem area)
      | inr is ↦ (signed.0, is, signed.2)
    ]

pub only_area : (text message signature : List ℕ) → is_pem text ≡ false → IsSignedByText text message signature
    → IsSignedByArea text message signature
only_area text message signature other signed =
    elim signed.1 [
      | inl is ↦ (signed.0, is, signed.2)
      | inr pem ↦ absurd (no_pem text signed.0 other pem)
    ]

pub as_pem : (text message signature : List ℕ) (r : Result Unit CheckFault) → is_pem text ≡ true → IfErr r (IsPemFault text message signature)
    → IfErr r (IsCheckFault text message signature)
as_pem text message signature (Ok x) pem is = tt
as_pem text message signature (Err fault) pem is = subst (λ (b : Bool). IsFaultOf b text message signature fault) (sym pem) is

pub as_area : (text message signature : List ℕ) (r : Result Unit CheckFault) → is_pem text ≡ false → IfErr r (IsAreaFault text message signature)
    → IfErr r (IsCheckFault text message signature)
as_area text message signature (Ok x) other is = tt
as_area text message signature (Err fault) other is = subst (λ (b : Bool). IsFaultOf b text message signature fault) (sym other) is
