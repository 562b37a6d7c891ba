-- The units before the first that is NUL.
use Rattle.std.proofs.Common.{◌≡◌, ℕ, ◌-◌, ◌≤◌, ◌<◌, ◌&&◌, false, eqb, List, [], ◌∷◌, ◌++◌, length, take, drop, get_or, refl, sym, ap, ap₂, ◌∙◌, arith, append_assoc, append-nil, length-append, take_at, take_all, take-append-drop}
use Rattle.event_data.specs.Names.{up_to_nul}

-- The bytes are a prefix and the rest, and the units of the bytes are the prefix and the units of the rest.
pub record IsOnWay (bytes rest : List ℕ) : Type 0 where
  pub prefix : List ℕ
  pub parts : bytes ≡ prefix ++ rest
  pub same : up_to_nul bytes ≡ prefix ++ up_to_nul rest

pub way_begins : (bytes : List ℕ) → IsOnWay bytes bytes
way_begins bytes = record { prefix = []; parts = refl; same = refl }

pub way_goes_on : (bytes rest after : List ℕ) → IsOnWay bytes rest → up_to_nul rest ≡ take 2 rest ++ up_to_nul after → after ≡ drop 2 rest
    → IsOnWay bytes after
way_goes_on bytes rest after way more e =
    record {
      prefix = way.prefix ++ take 2 rest;
      parts = way.parts ∙ ap (λ (r : List ℕ). way.prefix ++ r) (sym (take-append-drop 2 rest) ∙ ap (λ (a : List ℕ). take 2 rest ++ a) (sym e))
          ∙ sym (append_assoc way.prefix (take 2 rest) after);
      same = way.same ∙ ap (λ (r : List ℕ). way.prefix ++ r) more ∙ sym (append_assoc way.prefix (take 2 rest) (up_to_nul after));
    }

pub way_ends : (bytes rest : List ℕ) → IsOnWay bytes rest → up_to_nul rest ≡ [] → take (length bytes - length rest) bytes ≡ up_to_nul bytes
way_ends bytes rest way none =
    let size = ap (λ (b : List ℕ). length b) way.parts ∙ length-append way.prefix rest in
    let less : length bytes - length rest ≡ length way.prefix = omega (arith, size) in
    ap₂ take less way.parts ∙ take_at way.prefix rest (length way.prefix) refl
    ∙ sym (way.same ∙ ap (λ (u : List ℕ). way.prefix ++ u) none ∙ append-nil way.prefix)

pub way_length : (bytes rest : List ℕ) → IsOnWay bytes rest → length rest ≤ length bytes
way_length bytes rest way =
    let size = ap (λ (b : List ℕ). length b) way.parts ∙ length-append way.prefix rest in
    omega (arith, size)

-- A unit that is not NUL, then others.
pub unit_passed : (bytes : List ℕ) → 2 ≤ length bytes → (eqb (get_or bytes 0 0) 0 && eqb (get_or bytes 1 0) 0) ≡ false
    → up_to_nul bytes ≡ take 2 bytes ++ up_to_nul (take (length bytes - 2) (drop 2 bytes))
unfolding up_to_nul
unit_passed [] long other = absurd (omega (arith, long))
unit_passed (low ∷ []) long other = absurd (omega (arith, long))
unit_passed (low ∷ high ∷ bytes) long other =
    let less : length (low ∷ high ∷ bytes) - 2 ≡ length bytes = omega arith in
    rw other (ap (λ (b : List ℕ). low ∷ high ∷ up_to_nul b) (sym (ap (λ (n : ℕ). take n bytes) less ∙ take_all (length bytes) bytes (omega arith))))

-- A NUL unit, and none at all.
pub unit_ends : (bytes : List ℕ) → 2 ≤ length bytes → get_or bytes 0 0 ≡ 0 → get_or bytes 1 0 ≡ 0 → up_to_nul bytes ≡ []
unfolding up_to_nul
unit_ends [] long l h = refl
unit_ends (low ∷ []) long l h = refl
unit_ends (low ∷ high ∷ bytes) long l h = rw (l, h) refl

pub unit_missing : (bytes : List ℕ) → length bytes < 2 → up_to_nul bytes ≡ []
unfolding up_to_nul
unit_missing [] short = refl
unit_missing (low ∷ []) short = refl
unit_missing (low ∷ high ∷ bytes) short = absurd (omega (arith, short))
