-- Texts, GUIDs, device paths and addresses as JSON.
use Rattle.std.specs.Prelude.{ℕ, ◌==◌, if◌then◌else◌, List, [], ◌∷◌, codes, length, Option, Some, None}
use Rattle.json.specs.Json.{Json, string}
use Rattle.event_texts.specs.Guids.{guid_text}
use Rattle.event_texts.specs.Numbers.{hex_number}
use Rattle.event_texts.specs.PathTexts.{path_text}
use Rattle.event_texts.specs.WideTexts as wide
use Rattle.cells.specs.Values.{Member, hex_json}

-- A member with a text; under the other name the bytes in hexadecimal, where they are no text.
abbrev pub text_or_hex : List ℕ → List ℕ → List ℕ → Option (List ℕ) → Member
text_or_hex name hex_name bytes (Some text) = (name, string text)
text_or_hex name hex_name bytes None = (hex_name, hex_json bytes)

-- Bytes that are a text in UTF-16, mostly.
abbrev pub wide_member : List ℕ → List ℕ → List ℕ → Member
wide_member name hex_name bytes = text_or_hex name hex_name bytes (wide.wide_text bytes)

-- Bytes that are a device path, mostly.
abbrev pub path_member : List ℕ → Member
path_member bytes = text_or_hex (codes "path") (codes "path_hex") bytes (path_text bytes)

-- The bytes behind a form, if there are any.
abbrev pub rest_members : List ℕ → List Member
rest_members rest = if length rest == 0 then [] else (codes "rest", hex_json rest) ∷ []

abbrev pub guid_json : List ℕ → Json
guid_json guid = string (guid_text guid)

-- A number of 64 bits, in hexadecimal: readers of JSON lose digits of numbers above 2^53.
abbrev pub address_json : ℕ → Json
address_json value = string (hex_number value)
