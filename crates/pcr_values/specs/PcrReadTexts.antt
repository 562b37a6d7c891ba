-- The lines that tpm2_pcrread (tpm2-tools) prints: banks, and below each the values of its registers. Which lines are taken is this
-- project's choice.
use Rattle.std.specs.Prelude.{◌≡◌, ◌⊎◌, ℕ, ◌-◌, ◌<◌, ◌||◌, ◌==◌, Bool, IsTrue, List, [], ◌++◌, length, codes, decimal, replicate, Option, Some, None, Ok}
use Rattle.std.specs.Char.{is_ascii_alphanumeric}
use Rattle.std.specs.List.{list_all}
use Rattle.hex.specs.Hex.{decode_of}
use Rattle.pcr_banks.specs.declared.alg.Alg.{Alg}
use Rattle.pcr_banks.specs.Names.{alg_of, bytes_of, name_of, register_count, size_of}
use Rattle.pcr_values.specs.declared.expected.Expected.{Expected}

-- ---- one line

-- A byte that a bank's name may have: a letter, a digit or an underscore.
abbrev pub is_name_byte : ℕ → Bool
is_name_byte byte = is_ascii_alphanumeric byte || (byte == 95)

-- The line begins the bank of this name: two spaces, the name, which is not empty, and a colon.
pub record IsBankLine (line name : List ℕ) : Type 0 where
  pub some : 0 < length name
  pub all_name : IsTrue (list_all is_name_byte name)
  pub spelled : line ≡ codes "  " ++ (name ++ codes ":")

-- A number in decimal, and spaces after it up to two columns.
abbrev pub two_columns : ℕ → List ℕ
two_columns number = decimal number ++ replicate (2 - length (decimal number)) 32

-- The line gives a register of the bank of this name its value: four spaces, the register in two columns, `: 0x`, and the value in
-- hexadecimal digits of either case.
pub record IsValueLine (bank line : List ℕ) (expected : Expected) : Type 0 where
  pub digits : List ℕ
  pub bank_is : name_of expected.alg ≡ bank
  pub exists : expected.register < register_count
  pub alg_is : alg_of expected.value ≡ expected.alg
  pub value_is : decode_of digits ≡ Ok (bytes_of expected.value)
  pub value_size : length (bytes_of expected.value) ≡ size_of expected.alg
  pub spelled : line ≡ codes "    " ++ (two_columns expected.register ++ (codes ": 0x" ++ digits))

-- The line is one of a bank of another algorithm, whose name is none of ours: it begins with four spaces.
pub record IsForeignLine (bank line : List ℕ) : Type 0 where
  pub rest : List ℕ
  pub unknown : (alg : Alg) → name_of alg ≡ bank → ⊥
  pub spelled : line ≡ codes "    " ++ rest

-- ---- lines in banks

-- A position between lines: the name of the bank that it is in, or `None` before the first bank line.
abbrev pub Position : Type 0
Position = Option (List ℕ)

-- At this position, the line gives this register its value.
abbrev pub GivesValue : Position → List ℕ → Expected → Type 0
GivesValue None line expected = ⊥
GivesValue (Some bank) line expected = IsValueLine bank line expected

-- At this position, the line is skipped: it is empty, or one of a bank of another algorithm.
abbrev pub IsSkipped : Position → List ℕ → Type 0
IsSkipped None line = line ≡ []
IsSkipped (Some bank) line = (line ≡ []) ⊎ IsForeignLine bank line

-- The line begins the bank that this position is in.
abbrev pub Begins : List ℕ → Position → Type 0
Begins line None = ⊥
Begins line (Some name) = IsBankLine line name

-- A line at the position `before` leads to the position `after`, and states at most one register: it is skipped, or begins a bank, or
-- gives a register its value.
abbrev pub Says : Position → List ℕ → Position → Option Expected → Type 0
Says before line after None = (IsSkipped before line × (after ≡ before)) ⊎ Begins line after
Says before line after (Some expected) = GivesValue before line expected × (after ≡ before)
