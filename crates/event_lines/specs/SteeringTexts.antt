-- Texts for people, in which no character steers what shows them. JSON escapes what is below U+0020, and lets the others go out as they are.
use Rattle.std.specs.Prelude.{ℕ, ◌/◌, ◌%◌, ◌==◌, ◌||◌, ◌&&◌, nat_le, not, Bool, if◌then◌else◌, List, [], ◌∷◌, ◌++◌, codes, chars, encode_utf8, flat_map}
use Rattle.std.specs.Char.{digit_char}
use Rattle.json.specs.Json.{Json}
use Rattle.cells.specs.Cells.{Cell}
use Rattle.cells.specs.Values.{Member, line_of}

abbrev pub is_between : ℕ → ℕ → ℕ → Bool
is_between first last character = nat_le first character && nat_le character last

-- DEL, and the control characters of the set C1, which a terminal obeys (ISO/IEC 6429).
abbrev pub is_control : ℕ → Bool
is_control character = is_between 0x7f 0x9f character

-- The line separator and the paragraph separator (The Unicode Standard, 'Newline Guidelines').
abbrev pub is_separator : ℕ → Bool
is_separator character = is_between 0x2028 0x2029 character

-- The formatting characters that turn the direction of a text (Unicode Standard Annex #9, 'Directional Formatting Characters').
abbrev pub is_directional : ℕ → Bool
is_directional character =
    character == 0x061c || is_between 0x200e 0x200f character || is_between 0x202a 0x202e character || is_between 0x2066 0x2069 character

-- Whether a character steers what shows a text.
abbrev pub is_steering : ℕ → Bool
is_steering character = is_control character || is_separator character || is_directional character

abbrev pub is_plain : ℕ → Bool
is_plain character = not (is_steering character)

-- A character below U+10000 in JSON's escape with four digits of lower case hexadecimal (RFC 8259, section 7).
abbrev pub unicode_escape : ℕ → List ℕ
unicode_escape character =
    codes "\\u"
    ++ digit_char (character / 4096 % 16) ∷ digit_char (character / 256 % 16) ∷ digit_char (character / 16 % 16) ∷ digit_char (character % 16) ∷ []

-- A character as it is, in UTF-8, or its escape where it steers.
unfoldable pub told_character : ℕ → List ℕ
told_character character = if is_steering character then unicode_escape character else encode_utf8 character

-- A text in UTF-8, with each character that steers as its escape. Of JSON it is the same value: they stand only within strings.
abbrev pub unsteered : List ℕ → List ℕ
unsteered text = flat_map told_character (chars text)

-- A value: the member of this name. In text, after these words, it ends the line as JSON, in which no character steers what shows it.
abbrev pub value_cell : List ℕ → List ℕ → Json → Cell Member
value_cell before key value = record { text = before ++ unsteered (line_of value); json = (key, value) ∷ [] }
