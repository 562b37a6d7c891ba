-- A text as a terminal shows it, and obeys nothing of it.
use Rattle.std.specs.Prelude.{ℕ, Bool, List, [], ◌∷◌, ◌++◌, ◌&&◌, ◌||◌, ◌==◌, nat_le, if◌then◌else◌, codes, flat_map}
use Rattle.hex.specs.Hex.{encode_lower}

-- A printable character of ASCII, from space to tilde.
abbrev pub is_printable : ℕ → Bool
is_printable byte = nat_le 32 byte && nat_le byte 126

-- A byte as it is shown: itself if it is printable; else a backslash, `x`, and two digits in lower case.
abbrev pub escaped_byte : ℕ → List ℕ
escaped_byte byte = if is_printable byte then byte ∷ [] else codes "\\x" ++ encode_lower (byte ∷ [])

-- A text as it is shown within a line.
abbrev pub escape : List ℕ → List ℕ
escape text = flat_map escaped_byte text

-- A byte of such a line, or its line feed.
abbrev pub is_shown : ℕ → Bool
is_shown byte = is_printable byte || byte == 10
