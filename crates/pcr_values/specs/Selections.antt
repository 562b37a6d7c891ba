-- Registers that a text selects, as tpm2_quote and tpm2_pcrread take them: `sha256:0,1,2+sha1:10`.
use Rattle.std.specs.Prelude.{◌≡◌, ◌⊎◌, ℕ, suc, ◌+◌, ◌&&◌, ◌||◌, ◌==◌, Bool, true, if◌then◌else◌, List, [], ◌∷◌, ◌++◌, length, Option, None, Some, is_some, codes}
use Rattle.std.specs.List.{filter, list_all, list_any}
use Rattle.pcr_banks.specs.declared.alg.Alg.{Alg}
use Rattle.pcr_banks.specs.Names.{name_of, same_alg}
use Rattle.pcr_values.specs.declared.expected.Expected.{Expected}
use Rattle.pcr_values.specs.declared.selection.BankRange.{BankRange}
use Rattle.pcr_values.specs.StatedRegisters.{onto_first}
use Rattle.pcr_values.specs.RegisterRanges.{IsRangeText, is_within}

-- ---- how a text spells them

-- The part names this bank, and spells these registers after a colon.
pub record IsNamedRange (text : List ℕ) (bank : BankRange) : Type 0 where
  pub alg : Alg
  pub alg_is : bank.alg ≡ Some alg
  pub registers : List ℕ
  pub range_is : IsRangeText registers bank.range
  pub spelled : text ≡ name_of alg ++ (codes ":" ++ registers)

-- The part selects these registers: of the bank that it names, or else of the one before it.
abbrev pub IsBankRangeText : Option Alg → List ℕ → BankRange → Type 0
IsBankRangeText before text bank = IsNamedRange text bank ⊎ ((bank.alg ≡ before) × IsRangeText text bank.range)

-- A comma or a plus.
abbrev pub is_separator : ℕ → Bool
is_separator byte = (byte == 44) || (byte == 43)

-- A text, split at its separators: one more part than there are of them.
abbrev pub split_at_separators : List ℕ → List (List ℕ)
split_at_separators [] = [] ∷ []
split_at_separators (byte ∷ text) = if is_separator byte then [] ∷ split_at_separators text else onto_first byte (split_at_separators text)

-- The parts select these registers, one each: a part without a bank's name is of the bank of the part before it.
abbrev pub AreBankRanges : Option Alg → List (List ℕ) → List BankRange → Type 0
AreBankRanges before [] ranges = ranges ≡ []
AreBankRanges before (part ∷ parts) [] = ⊥
AreBankRanges before (part ∷ parts) (first ∷ ranges) = IsBankRangeText before part first × AreBankRanges first.alg parts ranges

-- The text selects these registers: at least one, since no part of a text may be empty. Before any bank is named they are of every bank.
abbrev pub SpellsRanges : List ℕ → List BankRange → Type 0
SpellsRanges text ranges = AreBankRanges None (split_at_separators text) ranges

-- ---- where a text is wrong

-- The bank of a part after these, without a name of its own.
abbrev pub bank_after : Option Alg → List BankRange → Option Alg
bank_after before [] = before
bank_after before (first ∷ ranges) = bank_after first.alg ranges

-- How many bytes these parts have, each with the separator after it.
abbrev pub parts_length : List (List ℕ) → ℕ
parts_length [] = 0
parts_length (part ∷ parts) = suc (length part) + parts_length parts

-- The text's first wrong part begins at this byte, counted from 0: it selects no registers, and those before it do.
pub record IsFirstWrong (text : List ℕ) (at : ℕ) : Type 0 where
  pub before : List (List ℕ)
  pub part : List ℕ
  pub others : List (List ℕ)
  pub ranges : List BankRange
  pub parts : split_at_separators text ≡ before ++ part ∷ others
  pub selected : AreBankRanges None before ranges
  pub wrong : (bank : BankRange) → IsBankRangeText (bank_after None ranges) part bank → ⊥
  pub begins : at ≡ parts_length before

-- The first part of the text selects registers.
pub record BeginsWithBankRange (text : List ℕ) : Type 0 where
  pub first : List ℕ
  pub others : List (List ℕ)
  pub bank : BankRange
  pub parts : split_at_separators text ≡ first ∷ others
  pub first_is : IsBankRangeText None first bank

-- ---- which registers they are

-- Whether this is the bank, or every bank is.
abbrev pub is_bank : Option Alg → Alg → Bool
is_bank None alg = true
is_bank (Some own) alg = same_alg own alg

-- Whether the register of the bank of this algorithm is among them.
abbrev pub is_in : BankRange → Alg → ℕ → Bool
is_in bank alg register = is_bank bank.alg alg && is_within bank.range register

-- Whether one of the ranges names the register.
abbrev pub names : List BankRange → Alg → ℕ → Bool
names ranges alg register = list_any (λ bank. is_in bank alg register) ranges

-- Whether each is of a bank that is named.
abbrev pub are_of_banks : List BankRange → Bool
are_of_banks ranges = list_all (λ bank. is_some bank.alg) ranges

-- Those of the expected registers that are selected, in order.
abbrev pub those_selected : List BankRange → List Expected → List Expected
those_selected ranges expected = filter (λ e. names ranges e.alg e.register) expected
