-- A selection while it is read part after part.
use Rattle.std.specs.Prelude.{ℕ, List, [], Option, Some, None}
use Rattle.pcr_values.specs.Selections.{split_at_separators}

-- The parts of the rest of a text; none after its last part.
abbrev pub parts_left : Option (List ℕ) → List (List ℕ)
parts_left None = []
parts_left (Some text) = split_at_separators text
