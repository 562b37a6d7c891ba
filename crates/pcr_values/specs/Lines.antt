-- Where a text is cut.
use Rattle.std.specs.Prelude.{◌≡◌, ℕ, List, ◌∷◌, ◌++◌}
use Rattle.std.specs.Str.Iter.{LacksByte}

-- `prefix` is what stands before the first `byte` of the text, and `rest` what stands after it.
pub record IsSplitOnce (byte : ℕ) (text prefix rest : List ℕ) : Type 0 where
  pub lacks : LacksByte byte prefix
  pub parts : text ≡ prefix ++ byte ∷ rest
