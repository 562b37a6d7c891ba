-- Where a text that spells a range has its numbers.
use Rattle.std.specs.Prelude.{◌≡◌, ◌⊎◌, ℕ, List}
use Rattle.std.specs.Str.Iter.{LacksByte}
use Rattle.pcr_values.specs.Lines.{IsSplitOnce}

-- `first` and `last` are what stands before the first hyphen of the text and after it; both are the text if it has no hyphen.
abbrev pub AreEnds : List ℕ → List ℕ → List ℕ → Type 0
AreEnds text first last = IsSplitOnce 45 text first last ⊎ (LacksByte 45 text × (first ≡ text) × (last ≡ text))
