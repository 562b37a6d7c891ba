-- An image's bytes are neither a text nor a separator.
use Rattle.std.proofs.Common.{◌≡◌, ℕ, Bool, true, false, not, ◌&&◌, eqb, List, [], ◌∷◌, ◌++◌, length, Some, refl, sym, ap, subst, ◌∙◌, inl, inr, append_assoc, arith}
use Rattle.std.specs.Prelude.{◌⊎◌}
use Rattle.pcr_banks.specs.declared.alg.Alg.{Alg}
use Rattle.pcr_banks.specs.Names.{digest_in, hash_of}
use Rattle.binding_laws.specs.BankBinding.{Collision}
use Rattle.byte_fields.specs.Spelling.{number32}
use Rattle.boot_log.specs.Names.{LogEvent}
use Rattle.event_data.specs.Names.{IsSeparator, IsText, has_no_nul}
use Rattle.boot_answers.specs.Images.{IsNoImage}
use Rattle.answer_laws.specs.HashedImages.{IsImageBytes}
use Rattle.binding_laws.proofs.BankBindingLaws.{same_or_collide}

and_none : (b c : Bool) → c ≡ false → (b && c) ≡ false
and_none true c e = e
and_none false c e = refl

-- A NUL among bytes.
nul_among : (prefix back : List ℕ) → has_no_nul (prefix ++ 0 ∷ back) ≡ false
nul_among [] back = refl
nul_among (x ∷ prefix) back = and_none (not (eqb x 0)) (has_no_nul (prefix ++ 0 ∷ back)) (nul_among prefix back)

not_nothing : (prefix back : List ℕ) (x : ℕ) → [] ≡ prefix ++ x ∷ back → ⊥
not_nothing [] back x e = absurd cc
not_nothing (y ∷ prefix) back x e = absurd cc

-- A NUL that is not the last byte is among those before the last.
nul_before : (text prefix back : List ℕ) (next : ℕ) → text ++ 0 ∷ [] ≡ prefix ++ 0 ∷ next ∷ back → has_no_nul text ≡ false
nul_before [] [] back next e = absurd cc
nul_before [] (y ∷ prefix) back next e =
    let tails : [] ≡ prefix ++ 0 ∷ next ∷ back = cc in
    absurd (not_nothing prefix (next ∷ back) 0 tails)
nul_before (x ∷ text) [] back next e =
    let head : x ≡ 0 = cc in
    rw head refl
nul_before (x ∷ text) (y ∷ prefix) back next e =
    let tails : text ++ 0 ∷ [] ≡ prefix ++ 0 ∷ next ∷ back = cc in
    and_none (not (eqb x 0)) (has_no_nul text) (nul_before text prefix back next tails)

apart : (b : Bool) → b ≡ true → b ≡ false → ⊥
apart b first second = absurd cc

no_text : (bytes text prefix back : List ℕ) → bytes ≡ prefix ++ 0 ∷ 0 ∷ back → has_no_nul text ≡ true
    → (bytes ≡ text) ⊎ (bytes ≡ text ++ 0 ∷ []) → ⊥
no_text bytes text prefix back parts none (inl spelled) =
    apart (has_no_nul text) none (ap has_no_nul (sym spelled ∙ parts) ∙ nul_among prefix (0 ∷ back))
no_text bytes text prefix back parts none (inr spelled) =
    apart (has_no_nul text) none (nul_before text prefix back 0 (sym spelled ∙ parts))

separator_size : (value : ℕ) → length (number32 value) ≡ 4
separator_size value = refl

no_separator_or_text : (image : List ℕ) → IsImageBytes image
    → ((value : ℕ) × IsSeparator image value) ⊎ ((text : List ℕ) × IsText image text) → ⊥
no_separator_or_text image is (inl separator) =
    absurd (omega (arith, is.longer, ap (λ (l : List ℕ). length l) separator.1.spelled, separator_size separator.0))
no_separator_or_text image is (inr text) =
    no_text image text.0 (is.prefix ++ 0x50 ∷ 0x45 ∷ []) is.back
    (is.signature ∙ sym (append_assoc is.prefix (0x50 ∷ 0x45 ∷ []) (0 ∷ 0 ∷ is.back))) text.1.no_nul text.1.spelled

some_is : {A : Type 0} (x y : A) → Some x ≡ Some y → x ≡ y
some_is x y e = cc

pub told : (alg : Alg) (event : LogEvent) (image : List ℕ) → digest_in event.digests alg ≡ Some (hash_of alg image) → IsImageBytes image
    → IsNoImage alg event → Collision alg (λ bytes. bytes ≡ image) (λ bytes. bytes ≡ event.payload)
told alg event image digest is none =
    let one : hash_of alg image ≡ hash_of alg event.payload =
    some_is (hash_of alg image) (hash_of alg event.payload)
    (sym digest ∙ none.measured.digest ∙ ap (λ (b : List ℕ). Some (hash_of alg b)) none.measured.are) in
    elim (same_or_collide alg (λ bytes. bytes ≡ image) (λ bytes. bytes ≡ event.payload) image event.payload refl refl one) [
      | inl same ↦ absurd (no_separator_or_text image is (subst (λ (b : List ℕ).
          ((value : ℕ) × IsSeparator b value) ⊎ ((text : List ℕ) × IsText b text)) (sym same) none.says))
      | inr collide ↦ collide
    ]
