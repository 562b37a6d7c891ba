-- Expected registers, written as text.
use Rattle.std.specs.Prelude.{ℕ, List, flat_map}
use Rattle.pcr_banks.specs.Names.{bytes_of}
use Rattle.pcr_values.specs.declared.expected.Expected.{Expected}
use Rattle.pcr_values.specs.RegisterTexts.{register_line}

-- The line of an expected register: its bank, its number and its value.
abbrev pub expected_line : Expected → List ℕ
expected_line expected = register_line expected.alg expected.register (bytes_of expected.value)

-- The lines of the expected registers, in order.
abbrev pub expected_text : List Expected → List ℕ
expected_text expected = flat_map expected_line expected
