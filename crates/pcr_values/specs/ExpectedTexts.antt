-- Expected registers, as text.
use Rattle.std.specs.Prelude.{◌≡◌, ℕ, ◌<◌, List, [], ◌++◌, length, codes, decimal, Option, Some, None, Ok}
use Rattle.hex.specs.Hex.{decode_of}
use Rattle.pcr_banks.specs.Names.{alg_of, bytes_of, name_of, register_count, size_of}
use Rattle.pcr_values.specs.declared.expected.Expected.{Expected}
use Rattle.pcr_values.specs.declared.expected.ExpectFault.{ExpectFault}
use Rattle.pcr_values.specs.StatedRegisters.{BeginsWithStated, HasFaultOfFirst, States}

-- The line spells this register: the algorithm's name, the register in decimal, and the value in hexadecimal digits of either
-- case, separated by single spaces.
pub record IsRegisterLine (line : List ℕ) (expected : Expected) : Type 0 where
  pub digits : List ℕ
  pub exists : expected.register < register_count
  pub alg_is : alg_of expected.value ≡ expected.alg
  pub value_is : decode_of digits ≡ Ok (bytes_of expected.value)
  pub value_size : length (bytes_of expected.value) ≡ size_of expected.alg
  pub spelled : line ≡ name_of expected.alg ++ (codes " " ++ (decimal expected.register ++ (codes " " ++ digits)))

-- The line is empty and states nothing, or it spells the register that it states. All positions are alike.
abbrev pub Spells : Unit {0} → List ℕ → Unit {0} → Option Expected → Type 0
Spells before line after None = line ≡ []
Spells before line after (Some expected) = IsRegisterLine line expected

-- The text states these expected registers: each line that is not empty spells one of them, in order, and no register of a bank
-- occurs twice.
abbrev pub IsExpectedText : List ℕ → List Expected → Type 0
IsExpectedText text expected = States Spells tt text expected

-- The text begins with lines that state at least one register.
abbrev pub BeginsWithRegister : List ℕ → Type 0
BeginsWithRegister text = BeginsWithStated Spells tt text

-- The fault is that of the first wrong line, which is neither empty nor a register line, or names a register that an earlier line
-- names. Lines count from 1.
abbrev pub HasFirstFault : List ℕ → ExpectFault → Type 0
HasFirstFault text fault = HasFaultOfFirst Spells tt text fault
