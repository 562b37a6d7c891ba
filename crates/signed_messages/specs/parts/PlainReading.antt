-- Reading the numbers of a signature by ECDSA alone, from left to right.
use Rattle.std.specs.Prelude.{ℕ, if◌then◌else◌, not, ◌==◌, nat_lt, List, ◌∷◌, slice_index, Result, Ok, Err}
use Rattle.byte_fields.specs.Reading.{◌>>=◌, byte_at}
use Rattle.byte_fields.specs.Formats.{Format, byte, ◌followed_by◌, viewed, unless, mapped, sized_by, whole}
use Rattle.signed_messages.specs.declared.plain.PlainFault.{PlainFault}
use Rattle.signed_messages.specs.declared.plain.PlainFault.TheVariants.{NotPlain}

-- ---- values in DER (ITU-T X.690)

-- This tag.
unfoldable pub tag : ℕ → Format ℕ PlainFault
tag wanted = unless (λ id. not (id == wanted)) NotPlain (byte NotPlain)

-- A length below 128, in one byte.
unfoldable pub size : Format ℕ PlainFault
size = unless (λ count. nat_lt 0x7F count) NotPlain (byte NotPlain)

unfoldable pub sized : Format (List ℕ) PlainFault
sized = sized_by size NotPlain

-- The content of a value with this tag.
unfoldable pub content : ℕ → Format (List ℕ) PlainFault
content wanted = mapped (λ x. x.1) (λ xs. (wanted, xs)) (tag wanted followed_by λ id. sized)

-- ---- numbers

-- The content that spells a number whose first byte here is not 0.
abbrev pub content_of : List ℕ → List ℕ
content_of number = if nat_lt (slice_index number 0) 0x80 then number else 0 ∷ number

abbrev pub positive : ℕ → List ℕ → Result (List ℕ) PlainFault
positive first content = if nat_lt 0x7F first then Err NotPlain else Ok content

unfoldable pub behind_zero : List ℕ → Result (List ℕ) PlainFault
behind_zero number = do
  first ← byte_at NotPlain number
  if nat_lt 0x7F first.0 then Ok number else Err NotPlain

-- The number that a content spells.
unfoldable pub number_with : List ℕ → Result (List ℕ) PlainFault
number_with content = do
  first ← byte_at NotPlain content
  if nat_lt 0 first.0 then positive first.0 content else behind_zero first.1

unfoldable pub number : Format (List ℕ) PlainFault
number = viewed number_with content_of (content 0x02)

abbrev pub numbers : Format (List ℕ × List ℕ) PlainFault
numbers = number followed_by λ r. number

-- All of the bytes, as two numbers.
unfoldable pub numbers_in : List ℕ → Result (List ℕ × List ℕ) PlainFault
numbers_in bytes = whole NotPlain numbers bytes

-- All of the bytes, as a sequence of two numbers.
unfoldable pub plain_in : List ℕ → Result (List ℕ × List ℕ) PlainFault
plain_in bytes = whole NotPlain (content 0x30) bytes >>= λ framed. numbers_in framed
