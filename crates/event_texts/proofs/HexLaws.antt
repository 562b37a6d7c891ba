-- Bytes in two digits, and bytes that a URI may have.
use Rattle.std.proofs.Common.{◌≡◌, ℕ, zero, suc, ◌<◌, ◌/◌, ◌%◌, ◌^◌, ◌-◌, Bool, true, false, List, [], ◌∷◌, refl, ◌∙◌, arith, inl, inr}
use Rattle.std.specs.Prelude.{◌==◌, ◌&&◌, slice_index}
use Rattle.std.specs.Fmt.{digits, digit_glyph, padded_integral, format_spec}
use Rattle.std.specs.List.{list_all}
use Rattle.std.specs.Str.{IsUtf8, IsAscii}
use Rattle.std.proofs.lemmas.Bool.{cases_lt, and_parts, eqb-true}
use Rattle.std.proofs.lemmas.Bool.Decides.{nat_tests}
use Rattle.std.proofs.lemmas.Fmt.{hex_byte}
use Rattle.std.proofs.lemmas.Str.{IsUtf8-from_ascii}
use Rattle.std.proofs.lemmas.Str.Ascii.{IsAscii-nil, IsAscii-cons}
use Rattle.hex.specs.Hex.{encode_lower, encode_with, lower_digits}
use Rattle.event_texts.specs.PathTexts.{is_uri_byte}

-- The digits that std writes for the numbers below n are those in the table.
abbrev all_glyphs : ℕ → Bool
all_glyphs zero = true
all_glyphs (suc n) = (digit_glyph false n == slice_index lower_digits n) && all_glyphs n

glyph_at : (n k : ℕ) → all_glyphs n ≡ true → k < n → digit_glyph false k ≡ slice_index lower_digits k
glyph_at zero k h lt = absurd (omega arith)
glyph_at (suc n) k h lt =
    let parts = and_parts (digit_glyph false n == slice_index lower_digits n) (all_glyphs n) h in
    elim (cases_lt k n) [
      | inl below ↦ glyph_at n k parts.1 below
      | inr top ↦
          let e : k ≡ n = omega arith in
          rw e (eqb-true (digit_glyph false n) (slice_index lower_digits n) parts.0)
    ]

pub two_digits : (byte : ℕ) → byte < 256
    → padded_integral (format_spec 32 0 4 2 (2 ^ 64 - 1)) false [] (digits 16 false byte) ≡ encode_lower (byte ∷ [])
unfolding encode_with
two_digits byte fits =
    hex_byte false byte fits
    ∙ rw (glyph_at 16 (byte / 16) refl (omega arith), glyph_at 16 (byte % 16) refl (omega arith)) refl

uri_byte_small : (byte : ℕ) → is_uri_byte byte ≡ true → byte < 128
uri_byte_small byte h = grind (arith, nat_tests)

uri_bytes_ascii : (bytes : List ℕ) → list_all is_uri_byte bytes ≡ true → IsAscii bytes
uri_bytes_ascii [] h = IsAscii-nil
uri_bytes_ascii (byte ∷ bytes) h =
    let parts = and_parts (is_uri_byte byte) (list_all is_uri_byte bytes) h in
    IsAscii-cons byte bytes (uri_byte_small byte parts.0) (uri_bytes_ascii bytes parts.1)

pub uri_is_utf8 : (bytes : List ℕ) → list_all is_uri_byte bytes ≡ true → IsUtf8 bytes
uri_is_utf8 bytes h = IsUtf8-from_ascii bytes (uri_bytes_ascii bytes h)
