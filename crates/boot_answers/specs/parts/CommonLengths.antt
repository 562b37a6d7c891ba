-- How long a longest common subsequence is of what is left of two lists, in a table.
use Rattle.std.specs.Prelude.{◌≡◌, ◌≤◌, ◌⊎◌, ◌+◌, ◌*◌, ℕ, Bool, true, false, List, [], ◌∷◌, length, drop, slice_index_or, Option}
use Rattle.pcr_banks.specs.declared.digest.Digest.{Digest}
use Rattle.boot_answers.specs.Differences.{AreOne}

-- The number is the larger of two.
pub record IsLarger (first other most : ℕ) : Type 0 where
  pub first_is_less : first ≤ most
  pub other_is_less : other ≤ most
  pub one_is : (most ≡ first) ⊎ (most ≡ other)

-- One more than without both, where the first elements are one; else the larger of the lengths without one of them.
abbrev pub IsNext : Bool → ℕ → ℕ → ℕ → ℕ → Type 0
IsNext true without_both without_first without_other size = size ≡ without_both + 1
IsNext false without_both without_first without_other size = IsLarger without_first without_other size

-- How long a longest common subsequence is.
abbrev pub IsLength : List (Option Digest) → List (Option Digest) → ℕ → Type 0
IsLength [] ys size = size ≡ 0
IsLength (x ∷ xs) [] size = size ≡ 0
IsLength (x ∷ xs) (y ∷ ys) size =
    (AreOne x y × ((less : ℕ) × (size ≡ less + 1) × IsLength xs ys less))
    ⊎ ((AreOne x y → ⊥) × ((first : ℕ) × (other : ℕ) × IsLength xs (y ∷ ys) first × IsLength (x ∷ xs) ys other × IsLarger first other size))

-- Each cell from this place on has the length of what is left of the lists after as many elements as its row and its column say. The
-- others of the last column are 0.
pub record IsFilled (now before : List (Option Digest)) (from : ℕ) (cells : List ℕ) : Type 0 where
  pub size : length cells ≡ 66049
  pub border : (first : ℕ) → first ≤ length now → slice_index_or cells (first * 257 + length before) 0 ≡ 0
  pub later : (first other : ℕ) → first ≤ length now → other ≤ length before → from ≤ first * 257 + other
      → IsLength (drop first now) (drop other before) (slice_index_or cells (first * 257 + other) 0)
