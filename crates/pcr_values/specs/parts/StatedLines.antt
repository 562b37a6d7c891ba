-- Lines that state registers, while they are read one after another.
use Rattle.std.specs.Prelude.{◌≡◌, ℕ, false, List, [], ◌∷◌, ◌++◌, Option, Some, None}
use Rattle.std.specs.List.{list_any}
use Rattle.pcr_values.specs.declared.expected.Expected.{Expected}
use Rattle.pcr_values.specs.StatedRegisters.{Saying, lines_of, same_register}

-- The lines of the rest of a text; none after its last line.
abbrev pub lines_left : Option (List ℕ) → List (List ℕ)
lines_left None = []
lines_left (Some text) = lines_of text

-- At a position, a line says one thing.
pub record SaysOnce {Position : Type 0} (Says : Saying Position) : Type 0 where
  pub once : (position next other : Position) (line : List ℕ) (first second : Option Expected) → Says position line next first
      → Says position line other second → (next ≡ other) × (first ≡ second)

-- `after` is `before` with this register, which is not among them, if there is one.
abbrev pub IsAdded : List Expected → Option Expected → List Expected → Type 0
IsAdded before None after = after ≡ before
IsAdded before (Some e) after = (list_any (λ x. same_register x e) before ≡ false) × (after ≡ before ++ e ∷ [])

-- `after` is `before` with the register that the line states, if it states one; it is not among them.
abbrev pub AddsStated : {Position : Type 0} → Saying Position → Position → List ℕ → Position → List Expected → List Expected → Type 0
AddsStated {Position} Says position line next before after = (stated : Option Expected) × Says position line next stated × IsAdded before stated after

-- The line states a register that is not among `earlier`.
abbrev pub StatesAnother : {Position : Type 0} → Saying Position → Position → List ℕ → List Expected → Type 0
StatesAnother {Position} Says position line earlier =
    (next : Position) × (e : Expected) × Says position line next (Some e) × (list_any (λ x. same_register x e) earlier ≡ false)
