-- Numbers in hexadecimal.
use Rattle.std.specs.Prelude.{ℕ, false, List, ◌++◌, codes}
use Rattle.std.specs.Fmt.{digits}

-- '0x' and lower case digits, without leading zeros.
abbrev pub hex_number : ℕ → List ℕ
hex_number value = codes "0x" ++ digits 16 false value
