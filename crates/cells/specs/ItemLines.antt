-- The lines of items that have numbers, and the line of a fault after them.
use Rattle.std.specs.Prelude.{ℕ, ◌+◌, List, [], ◌∷◌, ◌++◌, ◌≡◌}

-- The lines of items one after another, of which the first has this number.
abbrev pub numbered_lines : {A : Type 0} → (ℕ → A → List ℕ) → ℕ → List A → List ℕ
numbered_lines line number [] = []
numbered_lines line number (first ∷ items) = line number first ++ numbered_lines line (number + 1) items

-- This holds of a text and a fault, and what is shown is the text, and then the line of the fault, with its status.
abbrev pub EndsWithFault : {F : Type 0} → (List ℕ → F → Type 0) → (F → List ℕ → ℕ → Type 0) → List ℕ → ℕ → Type 0
EndsWithFault {F} Fails IsLine shown status =
    (text : List ℕ) × (fault : F) × (line : List ℕ) × Fails text fault × IsLine fault line status × (shown ≡ text ++ line)
