-- An option in what is left of a text.
use Rattle.std.specs.Prelude.{◌≡◌, ◌⊎◌, ℕ, Bool, true, List, [], ◌∷◌, ◌++◌}
use Rattle.boot_answers.specs.ImaPolicy.{begins_option, is_between}

-- A word of what is left is such an option; a word may begin at its start if `starts`.
pub record SetsFrom (starts : Bool) (text : List ℕ) : Type 0 where
  pub before : List ℕ
  pub rest : List ℕ
  pub parts : text ≡ before ++ rest
  pub start : ((before ≡ []) × (starts ≡ true)) ⊎ ((prefix : List ℕ) × (byte : ℕ) × (before ≡ prefix ++ byte ∷ []) × (is_between byte ≡ true))
  pub option : begins_option rest ≡ true
