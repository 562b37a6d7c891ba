-- Ranges of registers, and how a text spells them.
use Rattle.std.specs.Prelude.{◌≡◌, ◌⊎◌, ℕ, ◌<◌, ◌≤◌, ◌&&◌, nat_le, Bool, List, ◌++◌, codes, decimal}
use Rattle.pcr_banks.specs.Names.{register_count}
use Rattle.pcr_values.specs.declared.selection.RegisterRange.{RegisterRange}

-- Whether the register is one of the range: neither below its first nor above its last.
abbrev pub is_within : RegisterRange → ℕ → Bool
is_within range register = nat_le range.first register && nat_le register range.last

-- The text has the numbers of the range: its first and its last register in decimal, with a hyphen between them, or its only register. All
-- of its registers exist.
pub record IsNumberedRange (text : List ℕ) (range : RegisterRange) : Type 0 where
  pub ordered : range.first ≤ range.last
  pub exist : range.last < register_count
  pub spelled : (text ≡ decimal range.first ++ (codes "-" ++ decimal range.last)) ⊎ ((range.first ≡ range.last) × (text ≡ decimal range.first))

-- All registers of a bank.
abbrev pub whole_bank : RegisterRange
whole_bank = record { first = 0; last = 23 }

-- The text spells this range: it is `all`, or has the numbers.
abbrev pub IsRangeText : List ℕ → RegisterRange → Type 0
IsRangeText text range = ((text ≡ codes "all") × (range ≡ whole_bank)) ⊎ IsNumberedRange text range
