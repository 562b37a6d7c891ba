-- How numbers and length-prefixed bytes are spelled, in little endian.
use Rattle.std.specs.Prelude.{ℕ, ◌^◌, ◌<◌, List, ◌++◌, length, slice_index}
use Rattle.std.specs.Int.{w16, w32, w64, to_le_bytes}

-- Each number of the list is a byte.
abbrev pub IsBytes : List ℕ → Type 0
IsBytes bytes = (i : ℕ) → slice_index bytes i < 2 ^ 8

-- A number in eight bytes, one in four, and one in two.
abbrev pub number64 : ℕ → List ℕ
number64 n = to_le_bytes w64 n

abbrev pub number32 : ℕ → List ℕ
number32 n = to_le_bytes w32 n

abbrev pub number16 : ℕ → List ℕ
number16 n = to_le_bytes w16 n

-- Length-prefixed bytes: the length takes four bytes.
abbrev pub sized32 : List ℕ → List ℕ
sized32 bytes = number32 (length bytes) ++ bytes
