-- Expected registers that are written: the lines of the text, and what they spell.
use Rattle.std.proofs.Common.{◌≡◌, ℕ, zero, suc, ◌-◌, ◌/◌, ◌%◌, ◌^◌, ◌<◌, Bool, false, ◌==◌, List, [], ◌∷◌, ◌++◌, length, drop, take, decimal, codes, Option, None, Some, refl, sym, ap, ◌∙◌, subst, inl, inr, arith, append_assoc}
use Rattle.std.specs.Prelude.{flat_map, map, bytes_eq, option_to_list, if◌then◌else◌}
use Rattle.std.specs.List.{AllByRecursion, IsDistinct, filter}
use Rattle.std.specs.Str.Parse.{AllDigits}
use Rattle.std.proofs.lemmas.Bool.{cases_Bool}
use Rattle.std.proofs.lemmas.Bool.Decides.{nat_tests}
use Rattle.std.proofs.lemmas.List.Concat.{flat_map-cons}
use Rattle.std.proofs.lemmas.Fmt.{decimal_is_IsNumeral}
use Rattle.std.proofs.lemmas.Str.Parse.{digit_from_value}
use Rattle.hex.specs.Hex.{IsBytes, encode_lower, encode_with, hex_digit_value}
use Rattle.hex.proofs.HexLemmas.{IsDigits-lower_digits, decode_of-encode_lower, decode_of-ok}
use Rattle.pcr_banks.specs.Names.{alg_of, bytes_of, name_of, register_count, size_of}
use Rattle.pcr_values.specs.declared.expected.Expected.{Expected}
use Rattle.pcr_values.specs.Names.{GivesValue, IsExpectedText, IsPrintedText, IsRegisterLine, Position, PrintedPosition, Prints, PrintsIn, SayAll, Spells, expected_line, expected_text, lines_of, same_register, without_return}
use Rattle.pcr_values.specs.declared.printed.PrintedPart.{PrintedPart}
use Rattle.pcr_values.specs.declared.printed.PrintedPart.TheVariants.{Printed, Quoted, Signed}
use Rattle.pcr_values.proofs.ExpectedLaws.{AllAbove, Lacks, feed_cuts, name_above}

-- ---- what is left of a list

filter_all : (test : Expected → Bool) (P : Expected → Type 0) (expected : List Expected) → AllByRecursion P expected
    → AllByRecursion P (filter test expected)
filter_all test P [] all = tt
filter_all test P (e ∷ expected) all =
    let others = filter_all test P expected all.1 in
    elim (cases_Bool (test e)) [
      | inl passes ↦ rw passes (all.0, others)
      | inr fails ↦ rw fails others
    ]

filter_distinct : (test : Expected → Bool) (expected : List Expected) → IsDistinct same_register expected
    → IsDistinct same_register (filter test expected)
unfolding IsDistinct
filter_distinct test [] distinct = tt
filter_distinct test (e ∷ expected) distinct =
    let others = filter_distinct test expected distinct.1 in
    let apart = filter_all test (λ y. same_register e y ≡ false) expected distinct.0 in
    elim (cases_Bool (test e)) [
      | inl passes ↦ rw passes (apart, others)
      | inr fails ↦ rw fails others
    ]

-- ---- what is printed

-- A register of a bank, with a value of the bank's algorithm.
pub record IsProper (e : Expected) : Type 0 where
  pub exists : e.register < register_count
  pub alg_is : alg_of e.value ≡ e.alg
  pub size : length (bytes_of e.value) ≡ size_of e.alg
  pub fits : IsBytes (bytes_of e.value)

value_proper : (position : Position) (line : List ℕ) (e : Expected) → GivesValue position line e → IsProper e
value_proper None line e gives = absurd gives
value_proper (Some bank) line e gives = record {
  exists = gives.exists;
  alg_is = gives.alg_is;
  size = gives.value_size;
  fits = (decode_of-ok gives.digits (bytes_of e.value) gives.value_is).3;
}

value_in : (part : PrintedPart) (bank : Position) (line : List ℕ) (next : PrintedPosition) (e : Expected) → PrintsIn part bank line next (Some e)
    → GivesValue bank line e
value_in Signed bank line next e says = absurd cc
value_in Printed bank line next e (inl turns) = absurd cc
value_in Printed bank line next e (inr says) = says.1.0
value_in Quoted bank line next e (inl turns) = absurd cc
value_in Quoted bank line next e (inr says) = says.1.0

one_proper : (start next : PrintedPosition) (line : List ℕ) (first : Option Expected) (others : List Expected)
    → Prints start line next first → AllByRecursion IsProper others → AllByRecursion IsProper (option_to_list first ++ others)
one_proper start next line None others says all = all
one_proper start next line (Some e) others says all =
    (value_proper start.1 line e (value_in start.0 start.1 line next e says), all)

all_proper : (lines : List (List ℕ)) (start end : PrintedPosition) (expected : List Expected) → SayAll Prints start lines end expected
    → AllByRecursion IsProper expected
all_proper [] start end expected say = rw say.1 tt
all_proper (line ∷ lines) start end expected say =
    rw say.5 (one_proper start say.0 line say.1 say.2 say.3 (all_proper lines say.0 end say.2 say.4))

-- ---- bytes of a line

digit_above : (c d : ℕ) → hex_digit_value c ≡ Some d → 32 < c
digit_above c d h = grind (arith)

pub encoded_above : (bytes : List ℕ) → IsBytes bytes → AllAbove (encode_lower bytes)
unfolding encode_with
encoded_above [] fits = tt
encoded_above (byte ∷ bytes) fits =
    let high = fits 0 in (
      digit_above _ (byte / 16) (IsDigits-lower_digits (byte / 16) (omega (arith, high))),
      (digit_above _ (byte % 16) (IsDigits-lower_digits (byte % 16) (omega arith)), encoded_above bytes (λ i. fits (suc i))),
    )

digits_above : (digits : List ℕ) → AllDigits 10 digits → AllAbove digits
digits_above [] all = tt
digits_above (first ∷ digits) all =
    let within = digit_from_value first all.0 in
    (omega (arith, within), digits_above digits all.1)

pub decimal_above : (n : ℕ) → n < 2 ^ 64 → AllAbove (decimal n)
decimal_above n small = digits_above (decimal n) ((decimal_is_IsNumeral n small).0.1)

-- Bytes above a carriage return.
abbrev pub AllShown : List ℕ → Type 0
AllShown bytes = AllByRecursion (λ byte. 13 < byte) bytes

pub shown_join : (prefix rest : List ℕ) → AllAbove prefix → AllShown rest → AllShown (prefix ++ rest)
shown_join [] rest all others = others
shown_join (first ∷ prefix) rest all others = (omega (arith, all.0), shown_join prefix rest all.1 others)

pub shown : (bytes : List ℕ) → AllAbove bytes → AllShown bytes
shown [] all = tt
shown (first ∷ bytes) all = (omega (arith, all.0), shown bytes all.1)

pub lacks_feed : (bytes : List ℕ) → AllShown bytes → Lacks 10 bytes
lacks_feed [] all = tt
lacks_feed (first ∷ bytes) all = (λ e. absurd (omega (arith, e, all.0)), lacks_feed bytes all.1)

shown_drop : (n : ℕ) (bytes : List ℕ) → AllShown bytes → AllShown (drop n bytes)
shown_drop zero bytes all = all
shown_drop (suc n) [] all = tt
shown_drop (suc n) (first ∷ bytes) all = shown_drop n bytes all.1

no_return_in : (bytes : List ℕ) → AllShown bytes → bytes_eq bytes (13 ∷ []) ≡ false
no_return_in [] all = refl
no_return_in (first ∷ bytes) all =
    let other : (first == 13) ≡ false = (let above = all.0 in grind (arith, nat_tests)) in
    rw other refl

kept_whole : (line : List ℕ) → AllShown line → without_return line ≡ line
kept_whole line all =
    ap (λ (b : Bool). if b then take (length line - 1) line else line) (no_return_in (drop (length line - 1) line) (shown_drop (length line - 1) line all))

-- ---- lines

-- The line of a register, without its line feed.
abbrev pub body : Expected → List ℕ
body e = name_of e.alg ++ (codes " " ++ (decimal e.register ++ (codes " " ++ encode_lower (bytes_of e.value))))

pub body_shown : (e : Expected) → IsProper e → AllShown (body e)
body_shown e is =
    shown_join (name_of e.alg) _ (name_above e.alg) (
      omega arith,
      shown_join (decimal e.register) _ (decimal_above e.register (omega (arith, is.exists)))
          (omega arith, shown (encode_lower (bytes_of e.value)) (encoded_above (bytes_of e.value) is.fits)),
    )

pub body_spells : (e : Expected) → IsProper e → IsRegisterLine (body e) e
body_spells e is = record {
  digits = encode_lower (bytes_of e.value);
  exists = is.exists;
  alg_is = is.alg_is;
  value_is = decode_of-encode_lower (bytes_of e.value) is.fits;
  value_size = is.size;
  spelled = refl;
}

pub line_is : (e : Expected) (rest : List ℕ) → expected_line e ++ rest ≡ body e ++ 10 ∷ rest
line_is e rest =
    let digits = encode_lower (bytes_of e.value) in
    simp append_assoc refl

lines_are : (expected : List Expected) → AllByRecursion IsProper expected
    → lines_of (flat_map expected_line expected) ≡ map body expected ++ [] ∷ []
lines_are [] all = refl
lines_are (e ∷ expected) all =
    let line = body_shown e all.0 in
    let cut = feed_cuts (body e) (flat_map expected_line expected) (lacks_feed (body e) line) in
    ap lines_of (flat_map-cons expected_line e expected ∙ line_is e (flat_map expected_line expected))
    ∙ ap (map without_return) cut
    ∙ ap (λ (l : List ℕ). l ∷ lines_of (flat_map expected_line expected)) (kept_whole (body e) line)
    ∙ ap (λ (l : List (List ℕ)). body e ∷ l) (lines_are expected all.1)

bodies_spell : (expected : List Expected) → AllByRecursion IsProper expected
    → SayAll Spells tt (map body expected ++ [] ∷ []) tt expected
bodies_spell [] all = (tt, None, [], refl, (refl, refl), refl)
bodies_spell (e ∷ expected) all = (tt, Some e, expected, body_spells e all.0, bodies_spell expected all.1, refl)

written_states : (expected : List Expected) → AllByRecursion IsProper expected → IsDistinct same_register expected
    → IsExpectedText (flat_map expected_line expected) expected
written_states expected all distinct = record {
  end = tt;
  stated = record {
    say = subst (λ (l : List (List ℕ)). SayAll Spells tt l tt expected) (sym (lines_are expected all)) (bodies_spell expected all);
    distinct = distinct;
  };
}

-- What is written of the registers that a text of tpm2-tools states, states them: of those that a test passes, and of all.
pub those_read_back : (text : List ℕ) (expected : List Expected) (test : Expected → Bool) → IsPrintedText text expected
    → IsExpectedText (expected_text (filter test expected)) (filter test expected)
those_read_back text expected test is =
    let stated = is.printed.1 in
    let proper = all_proper (lines_of text) (Printed, None) (is.part, is.printed.0) expected stated.say in
    written_states (filter test expected) (filter_all test IsProper expected proper) (filter_distinct test expected stated.distinct)

pub all_read_back : (text : List ℕ) (expected : List Expected) → IsPrintedText text expected
    → IsExpectedText (expected_text expected) expected
all_read_back text expected is =
    let stated = is.printed.1 in
    let proper = all_proper (lines_of text) (Printed, None) (is.part, is.printed.0) expected stated.say in
    written_states expected proper stated.distinct
