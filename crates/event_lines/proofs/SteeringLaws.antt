-- Texts in which no character steers.
use Rattle.std.proofs.Common.{◌≡◌, ℕ, ◌<◌, ◌/◌, ◌%◌, Bool, true, false, List, [], ◌∷◌, ◌++◌, chars, encode_utf8, flat_map, refl, sym, ap, ◌∙◌, arith, append-nil}
use Rattle.std.specs.Prelude.{if◌then◌else◌}
use Rattle.std.specs.Char.{digit_char}
use Rattle.std.specs.List.{list_all}
use Rattle.std.specs.Str.{IsAscii, IsUtf8, all_scalars, encode_utf8_all}
use Rattle.std.proofs.Math.Utf8.{scalar}
use Rattle.std.proofs.lemmas.Bool.{and_parts, not-true}
use Rattle.std.proofs.lemmas.Bool.Decides.{nat_tests}
use Rattle.std.proofs.lemmas.List.Folds.{list_all-append}
use Rattle.std.proofs.lemmas.Str.{IsUtf8-append, IsUtf8-from_ascii, IsUtf8-nil, chars-IsAscii, chars-nil, chars-append, chars-encodes, encodes-chars, scalars-chars}
use Rattle.std.proofs.lemmas.Str.Ascii.{IsAscii-cons, IsAscii-nil}
use Rattle.event_lines.specs.SteeringTexts.{is_plain, is_steering, told_character, unicode_escape, unsteered}

-- Of ASCII only DEL steers.
small_is_plain : (x : ℕ) → x < 127 → is_plain x ≡ true
small_is_plain x small = grind (arith, nat_tests)

digit_is_small : (n : ℕ) → digit_char (n % 16) < 127
digit_is_small n = let below : n % 16 < 16 = omega arith in grind (arith, nat_tests)

-- A text whose characters are plain.
record IsPlain (text : List ℕ) : Type 0 where
  pub utf8 : IsUtf8 text
  pub plain : list_all is_plain (chars text) ≡ true

ascii_is_plain : (text : List ℕ) → IsAscii text → list_all is_plain text ≡ true → IsPlain text
ascii_is_plain text ascii plain = record {
  utf8 = IsUtf8-from_ascii text ascii;
  plain = ap (list_all is_plain) (chars-IsAscii text ascii) ∙ plain;
}

six_ascii : (p q r s : ℕ) → p < 128 → q < 128 → r < 128 → s < 128 → IsAscii (92 ∷ 117 ∷ p ∷ q ∷ r ∷ s ∷ [])
six_ascii p q r s first second third fourth =
    IsAscii-cons 92 (117 ∷ p ∷ q ∷ r ∷ s ∷ []) (omega arith) (IsAscii-cons 117 (p ∷ q ∷ r ∷ s ∷ []) (omega arith)
    (IsAscii-cons p (q ∷ r ∷ s ∷ []) first (IsAscii-cons q (r ∷ s ∷ []) second
    (IsAscii-cons r (s ∷ []) third (IsAscii-cons s [] fourth IsAscii-nil)))))

escape_is_ascii : (c : ℕ) → IsAscii (unicode_escape c)
escape_is_ascii c =
    let digit : (n : ℕ) → digit_char (n % 16) < 128 = λ n. (let small : digit_char (n % 16) < 127 = digit_is_small n in omega arith) in
    six_ascii (digit_char (c / 4096 % 16)) (digit_char (c / 256 % 16)) (digit_char (c / 16 % 16)) (digit_char (c % 16))
    (digit (c / 4096)) (digit (c / 256)) (digit (c / 16)) (digit c)

escape_has_plain : (c : ℕ) → list_all is_plain (unicode_escape c) ≡ true
escape_has_plain c =
    let digit = λ (n : ℕ). small_is_plain (digit_char (n % 16)) (digit_is_small n) in
    rw (digit (c / 4096), digit (c / 256), digit (c / 16), digit c) refl

escape_is_plain : (c : ℕ) → IsPlain (unicode_escape c)
escape_is_plain c = ascii_is_plain (unicode_escape c) (escape_is_ascii c) (escape_has_plain c)

-- A character that does not steer.
other_is_plain : (c : ℕ) → all_scalars (c ∷ []) ≡ true → is_steering c ≡ false → IsPlain (encode_utf8 c)
other_is_plain c scalar other =
    let encoded : encode_utf8_all (c ∷ []) ≡ encode_utf8 c = append-nil (encode_utf8 c) in
    record {
      utf8 = (c ∷ [], (scalar, encoded));
      plain = ap (λ (bs : List ℕ). list_all is_plain (chars bs)) (sym encoded) ∙ ap (list_all is_plain) (chars-encodes (c ∷ []) scalar)
          ∙ rw other refl;
    }

told_is_plain : (c : ℕ) → all_scalars (c ∷ []) ≡ true → IsPlain (told_character c)
unfolding told_character
told_is_plain c scalar = by_test (is_steering c) refl
  where
    by_test : (b : Bool) → is_steering c ≡ b → IsPlain (if b then unicode_escape c else encode_utf8 c)
    by_test true _ = escape_is_plain c
    by_test false other = other_is_plain c scalar other

both_plain : (xs ys : List ℕ) → IsPlain xs → IsPlain ys → IsPlain (xs ++ ys)
both_plain xs ys first second = record {
  utf8 = IsUtf8-append xs ys first.utf8 second.utf8;
  plain = ap (list_all is_plain) (chars-append xs ys first.utf8) ∙ list_all-append is_plain (chars xs) (chars ys) ∙ rw (first.plain, second.plain) refl;
}

nothing_is_plain : IsPlain []
nothing_is_plain = record { utf8 = IsUtf8-nil; plain = ap (list_all is_plain) chars-nil }

all_plain : (cs : List ℕ) → all_scalars cs ≡ true → IsPlain (flat_map told_character cs)
all_plain [] scalars = nothing_is_plain
all_plain (c ∷ cs) scalars =
    let parts = and_parts (scalar c) (all_scalars cs) scalars in
    both_plain (told_character c) (flat_map told_character cs) (told_is_plain c (rw parts.0 refl)) (all_plain cs parts.1)

pub unsteered_is_plain : (text : List ℕ) → IsUtf8 text → list_all is_plain (chars (unsteered text)) ≡ true
unsteered_is_plain text utf8 = (all_plain (chars text) (scalars-chars text utf8)).plain

-- A text whose characters are plain stays as it is.
one_as_it_is : (c : ℕ) → is_plain c ≡ true → told_character c ≡ encode_utf8 c
unfolding told_character
one_as_it_is c plain = let other : is_steering c ≡ false = not-true (is_steering c) plain in rw other refl

told_as_it_is : (cs : List ℕ) → list_all is_plain cs ≡ true → flat_map told_character cs ≡ encode_utf8_all cs
told_as_it_is [] plain = refl
told_as_it_is (c ∷ cs) plain =
    let parts = and_parts (is_plain c) (list_all is_plain cs) plain in
    ap (λ (bs : List ℕ). bs ++ flat_map told_character cs) (one_as_it_is c parts.0)
    ∙ ap (λ (bs : List ℕ). encode_utf8 c ++ bs) (told_as_it_is cs parts.1)

pub plain_stays : (text : List ℕ) → IsUtf8 text → list_all is_plain (chars text) ≡ true → unsteered text ≡ text
plain_stays text utf8 plain = told_as_it_is (chars text) plain ∙ encodes-chars text utf8
