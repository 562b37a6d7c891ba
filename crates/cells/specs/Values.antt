-- Values of JSON (RFC 8259), by their members and items, and their lines.
use Rattle.std.specs.Prelude.{◌≡◌, ℕ, ◌^◌, ◌<◌, nat_le, Bool, true, if◌then◌else◌, List, [], ◌∷◌, ◌++◌, codes, decimal, Option, Some, None, Result, OnOk, OnErr}
use Rattle.std.specs.List.{list_all}
use Rattle.std.specs.Str.{IsUtf8, is_utf8}
use Rattle.hex.specs.Hex.{encode_lower}
use Rattle.json.specs.Token.{Token, key}
use Rattle.json.specs.Json.{Json, Items, Members, document}
use Rattle.json.specs.Json as json
use Rattle.json.specs.Print.{print}
use Rattle.json.specs.Tree.{json_tokens}

-- ---- values

-- A member of an object: its name, and its value.
abbrev pub Member : Type 0
Member = List ℕ × Json

abbrev pub members_of : List Member → Members
members_of [] = json.no_members
members_of (first ∷ members) = json.member first.0 first.1 (members_of members)

-- The object with these members, in order.
abbrev pub object_of : List Member → Json
object_of members = json.object (members_of members)

abbrev pub items_of : List Json → Items
items_of [] = json.no_items
items_of (first ∷ values) = json.item first (items_of values)

-- The array of these values, in order.
abbrev pub array_of : List Json → Json
array_of values = json.array (items_of values)

-- A number as code holds it fits in 64 bits.
abbrev pub IsCount : ℕ → Type 0
IsCount number = number < 2 ^ 64

-- A number, in decimal.
abbrev pub number_json : ℕ → Json
number_json number = json.number (decimal number)

-- Bytes, as a string of lower case hexadecimal digits.
abbrev pub hex_json : List ℕ → Json
hex_json bytes = json.string (encode_lower bytes)

-- A member's tokens: its name as a key, and its value.
abbrev pub member_tokens : Member → List Token
member_tokens member = key member.0 ∷ json_tokens member.1

-- ---- lines

-- The value's line: its text, without spaces between tokens, and a line feed.
abbrev pub line_of : Json → List ℕ
line_of value = print (json_tokens value) ++ codes "\n"

-- No byte is a control character, such as a line feed.
abbrev pub has_no_control : List ℕ → Bool
has_no_control bytes = list_all (λ byte. nat_le 32 byte) bytes

-- The value's text reads back as the value, and has no control character: so each line feed of a stream of lines ends a line.
pub record IsOneLine (value : Json) : Type 0 where
  pub reads_back : document (print (json_tokens value)) ≡ Some value
  pub in_line : has_no_control (print (json_tokens value)) ≡ true

-- ---- members that may lack

-- The member of this name, if it has a value.
abbrev pub optional : List ℕ → Option Json → List Member
optional name None = []
optional name (Some value) = (name, value) ∷ []

-- ---- bytes that are text, mostly

-- The name of a member that shows bytes: the other one where they are not UTF-8.
abbrev pub shown_name : List ℕ → List ℕ → List ℕ → List ℕ
shown_name name hex_name bytes = if is_utf8 bytes then name else hex_name

-- The text that it shows: the bytes; their hexadecimal digits where they are not UTF-8.
abbrev pub shown_text : List ℕ → List ℕ
shown_text bytes = if is_utf8 bytes then bytes else encode_lower bytes

abbrev pub shown_member : List ℕ → List ℕ → List ℕ → Member
shown_member name hex_name bytes = (shown_name name hex_name bytes, json.string (shown_text bytes))

-- ---- appended lines

-- The value's line was appended, unless memory ran out: then all is as before.
pub record AppendsLine {E : Type 0} (result : Result (Unit {0}) E) (old new : List ℕ) (value : Json) : Type 0 where
  pub ok : OnOk result (new ≡ old ++ line_of value)
  pub utf8 : OnOk result (IsUtf8 (line_of value))
  pub err : OnErr result (new ≡ old)
