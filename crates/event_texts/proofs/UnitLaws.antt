-- Units of two bytes.
use Rattle.std.proofs.Common.{◌≡◌, ℕ, ◌-◌, ◌<◌, ◌≤◌, List, [], ◌∷◌, length, take, drop, get_or, refl, sym, ap, ◌∙◌, arith}
use Rattle.std.specs.Int.{w16, from_le_bytes}
use Rattle.std.proofs.Math.Seq.{take-length}
use Rattle.event_texts.specs.WideTexts.{units_in}

pub no_unit : (bytes : List ℕ) → length bytes < 2 → units_in bytes ≡ []
unfolding units_in
no_unit [] short = refl
no_unit (low ∷ []) short = refl
no_unit (low ∷ high ∷ rest) short = absurd (omega arith)

rest_is : (low high : ℕ) (rest : List ℕ) → take (length (low ∷ high ∷ rest) - 2) rest ≡ rest
rest_is low high rest =
    let n : length (low ∷ high ∷ rest) - 2 ≡ length rest = omega arith in
    ap (λ (k : ℕ). take k rest) n ∙ take-length rest

pub one_unit : (bytes : List ℕ) (unit : ℕ) → 2 ≤ length bytes → unit ≡ from_le_bytes w16 (get_or bytes 0 0 ∷ get_or bytes 1 0 ∷ [])
    → units_in bytes ≡ unit ∷ units_in (take (length bytes - 2) (drop 2 bytes))
unfolding units_in
one_unit [] unit long e = absurd (omega arith)
one_unit (low ∷ []) unit long e = absurd (omega arith)
one_unit (low ∷ high ∷ rest) unit long e =
    ap (λ (u : ℕ). u ∷ units_in rest) (sym e) ∙ ap (λ (r : List ℕ). unit ∷ units_in r) (sym (rest_is low high rest))
