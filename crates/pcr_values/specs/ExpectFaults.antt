-- The number of a fault of expected registers, and the line that it names.
use Rattle.std.specs.Prelude.{ℕ, Option, Some, None}
use Rattle.pcr_values.specs.declared.expected.ExpectFault.{ExpectFault}
use Rattle.pcr_values.specs.declared.expected.ExpectFault.TheVariants.{BadLine, DoubleLine, Memory, NoRegister, NotChecked, NotSigned}

abbrev pub expect_fault_number : ExpectFault → ℕ
expect_fault_number (BadLine line) = 1
expect_fault_number (DoubleLine line) = 2
expect_fault_number Memory = 3
expect_fault_number NotChecked = 4
expect_fault_number NotSigned = 5
expect_fault_number NoRegister = 6

abbrev pub expect_fault_line : ExpectFault → Option ℕ
expect_fault_line (BadLine line) = Some line
expect_fault_line (DoubleLine line) = Some line
expect_fault_line fault = None
