-- What is shown of a text, byte by byte.
use Rattle.std.proofs.Common.{◌≡◌, ℕ, ◌<◌, ◌/◌, ◌%◌, Bool, true, false, List, [], ◌∷◌, ◌++◌, get_or, refl, inl, inr, arith}
use Rattle.std.specs.Prelude.{nat_le}
use Rattle.std.specs.List.{list_all}
use Rattle.std.proofs.lemmas.Bool.{and_parts, both_ways, cases_Bool, leb-true}
use Rattle.std.proofs.lemmas.List.Folds.{list_all-append, list_all_at}
use Rattle.hex.specs.Hex.{encode_with, lower_digits}
use Rattle.hints.specs.Escaping.{escaped_byte, is_printable, is_shown}

-- Texts that pass, joined.
pub all_joined : (test : ℕ → Bool) (prefix back : List ℕ) → list_all test prefix ≡ true → list_all test back ≡ true
    → list_all test (prefix ++ back) ≡ true
all_joined test prefix back prefixes backs = rw (list_all-append test prefix back, prefixes, backs) refl

-- What is printable is shown.
pub printable_is_shown : (text : List ℕ) → list_all is_printable text ≡ true → list_all is_shown text ≡ true
printable_is_shown [] all = refl
printable_is_shown (byte ∷ rest) all =
    let parts = and_parts (is_printable byte) (list_all is_printable rest) all in
    rw (parts.0, printable_is_shown rest parts.1) refl

-- A digit is printable.
pub digit_is_printable : (value : ℕ) → value < 16 → is_printable (get_or lower_digits value 0) ≡ true
digit_is_printable value lt =
    elim (cases_Bool (is_printable (get_or lower_digits value 0))) [
      | inl passes ↦ passes
      | inr fails ↦
          absurd (both_ways (list_all is_printable lower_digits) (list_all_at is_printable lower_digits value 0 lt fails) refl)
    ]

-- A byte that is not printable, as it is shown.
pub hidden_byte : (byte : ℕ) → is_printable byte ≡ false
    → escaped_byte byte ≡ 92 ∷ 120 ∷ get_or lower_digits (byte / 16) 0 ∷ get_or lower_digits (byte % 16) 0 ∷ []
unfolding encode_with
hidden_byte byte fails = rw fails refl

-- A byte as it is shown is printable.
pub escaped_byte_is_printable : (byte : ℕ) → byte < 256 → list_all is_printable (escaped_byte byte) ≡ true
escaped_byte_is_printable byte lt =
    elim (cases_Bool (is_printable byte)) [
      | inl passes ↦ rw (passes, passes) refl
      | inr fails ↦
          let high = digit_is_printable (byte / 16) (omega arith) in
          let low = digit_is_printable (byte % 16) (omega arith) in
          rw (hidden_byte byte fails, high, low) refl
    ]

-- What is printable is ASCII.
pub printable_is_ascii : (byte : ℕ) → is_printable byte ≡ true → byte < 128
printable_is_ascii byte passes =
    let most = leb-true byte 126 (and_parts (nat_le 32 byte) (nat_le byte 126) passes).1 in
    omega (arith, most)
