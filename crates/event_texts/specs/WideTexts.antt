-- Texts in UTF-16, little endian.
use Rattle.std.specs.Prelude.{ℕ, ◌%◌, ◌==◌, ◌||◌, not, if◌then◌else◌, List, [], ◌∷◌, length, Option, Some, None}
use Rattle.std.specs.Int.{w16, from_le_bytes}
use Rattle.std.specs.Char.Utf16.{has_unpaired_surrogate, utf16_lossy_chars}
use Rattle.std.specs.Str.{encode_utf8_all}

-- The units of two bytes; a last byte alone is left out.
unfoldable pub units_in : List ℕ → List ℕ
units_in [] = []
units_in (low ∷ []) = []
units_in (low ∷ high ∷ rest) = from_le_bytes w16 (low ∷ high ∷ []) ∷ units_in rest

-- The text in UTF-8; none where a surrogate has no partner, or a byte is left over.
abbrev pub wide_text : List ℕ → Option (List ℕ)
wide_text bytes =
    if not (length bytes % 2 == 0) || has_unpaired_surrogate (units_in bytes) then None
    else Some (encode_utf8_all (utf16_lossy_chars (units_in bytes)))
