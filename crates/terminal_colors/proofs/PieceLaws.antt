-- Where a piece ends, and a state that is found at the start of a text.
use Rattle.std.proofs.Common.{◌≡◌, ℕ, ◌+◌, ◌<◌, ◌≤◌, ◌==◌, Bool, true, false, cond, min, ltb, List, [], ◌∷◌, ◌++◌, Option, None, Some, length, drop, refl, sym, ap, subst, ◌∙◌, inl, inr, length-append, arith}
use Rattle.std.specs.Prelude.{find, position, IfSome}
use Rattle.std.specs.List.{position_or_len, starts_with}
use Rattle.std.specs.Option.{option_or}
use Rattle.std.proofs.lemmas.Bool.{cases_Bool, ltb-false, ltb-true}
use Rattle.std.proofs.lemmas.Bool.Decides.{Decides-eqb}
use Rattle.std.proofs.lemmas.Slice.Eq.{starts_is}
use Rattle.terminal_colors.specs.States.{text_of}
use Rattle.terminal_colors.specs.declared.states.State.{State}

-- A place is chosen if the test passes there, and only then.
chosen_some : (passes : Bool) (first place : ℕ) → cond passes (Some first) None ≡ Some place → (passes ≡ true) × (first ≡ place)
chosen_some true first place is = (refl, cc)
chosen_some false first place is = absurd cc

chosen_none : (passes : Bool) (first : ℕ) → cond passes (Some first) None ≡ None → passes ≡ false
chosen_none true first is = absurd cc
chosen_none false first is = refl

-- A piece ends after the first place that passes.
pub end_some : (test : ℕ → Bool) (bytes : List ℕ) (place : ℕ) → Some place ≡ position test bytes
    → place + 1 ≡ min (position_or_len test bytes + 1) (length bytes)
end_some test bytes place is =
    let first = position_or_len test bytes in
    let chosen = chosen_some (ltb first (length bytes)) first place (sym is) in
    omega (arith, chosen.1, ltb-true first (length bytes) chosen.0)

-- A piece ends with the bytes, if no place passes.
pub end_none : (test : ℕ → Bool) (bytes : List ℕ) → None ≡ position test bytes
    → length bytes ≡ min (position_or_len test bytes + 1) (length bytes)
end_none test bytes is =
    let first = position_or_len test bytes in
    omega (arith, ltb-false first (length bytes) (chosen_none (ltb first (length bytes)) first (sym is)))

-- The words of a state that is found are in the text.
pub found_within : (states : List State) (text : List ℕ) (state : State)
    → find (λ state. starts_with (λ a b. a == b) text (text_of state)) states ≡ Some state → length (text_of state) ≤ length text
found_within [] text state is = absurd cc
found_within (first ∷ states) text state is = elim (cases_Bool (starts_with (λ a b. a == b) text (text_of first))) [
  | inl begins ↦
      let chosen : Some first ≡ Some state = rw begins at is in
      let same : first ≡ state = cc in
      let parts = (starts_is Decides-eqb text (text_of first) _ refl).0 begins in
      let long : length (text_of first) ≤ length text =
      omega (arith, ap length parts, length-append (text_of first) (drop (length (text_of first)) text)) in
      subst (λ (s : State). length (text_of s) ≤ length text) same long
  | inr other ↦ found_within states text state (rw other at is)
]

-- What holds of either holds of the first that there is.
pub IfSome-or : {A : Type 0} (P : A → Type 0) (first second : Option A) → IfSome first P → IfSome second P → IfSome (option_or first second) P
IfSome-or P None second p q = q
IfSome-or P (Some value) second p q = p
