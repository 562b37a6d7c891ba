-- An option in what is left of a text.
use Rattle.std.specs.Prelude.{◌≡◌, ◌⊎◌, ℕ, Bool, true, false, List, [], ◌∷◌, ◌++◌}
use Rattle.boot_answers.specs.ImaMeasuring.{BeginsMeasuring, is_space, stops}

-- A word of what is left is such an option; a word may begin at its start if `starts`.
pub record AsksFrom (starts : Bool) (text : List ℕ) : Type 0 where
  pub before : List ℕ
  pub rest : List ℕ
  pub parts : text ≡ before ++ rest
  pub start : ((before ≡ []) × (starts ≡ true)) ⊎ ((prefix : List ℕ) × (byte : ℕ) × (before ≡ prefix ++ byte ∷ []) × (is_space byte ≡ true))
  pub option : BeginsMeasuring rest
  pub plain : (prefix back : List ℕ) → before ≡ prefix ++ back → stops (back ++ rest) ≡ false
