-- What tpm2_pcrread prints: a line says one thing at most.
use Rattle.std.proofs.Common.{◌≡◌, ℕ, ◌+◌, ◌-◌, ◌*◌, ◌/◌, ◌%◌, ◌<◌, ◌≤◌, true, List, [], ◌∷◌, ◌++◌, length, drop, take, slice_index, decimal, codes, Option, None, Some, Bor, refl, sym, ap, ◌∙◌, inl, inr, arith}
use Rattle.std.specs.Prelude.{◌⊎◌, IfNone, IfSome, replicate, unwrap_or}
use Rattle.std.specs.List.{AllPass, list_all}
use Rattle.std.proofs.lemmas.Bool.{and_parts, cases_lt}
use Rattle.std.proofs.lemmas.List.{length-append, append_cancel_right}
use Rattle.std.proofs.lemmas.Fmt.{decimal_digit, decimal_step, decimal_injective}
use Rattle.pcr_banks.specs.declared.alg.Alg.{Alg}
use Rattle.pcr_banks.specs.Names.{bytes_of, name_of, size_of}
use Rattle.pcr_banks.proofs.AlgLaws.{same_name_is}
use Rattle.hex.specs.Hex.{is_hex_digit}
use Rattle.hex.proofs.HexLemmas.{decode_of-ok}
use Rattle.pcr_values.specs.declared.expected.Expected.{Expected}
use Rattle.pcr_values.specs.Names.{Begins, GivesValue, IsBankLine, IsSkipped, IsValueLine, Position, Says, SaysOnce, is_name_byte, two_columns}
use Rattle.pcr_values.proofs.StatedLaws.{same_expected}

-- ---- prefixes

-- Two texts of one length at the start of the same text are the same.
pub same_prefixes : (a b x y : List ℕ) → length a ≡ length b → a ++ x ≡ b ++ y → (a ≡ b) × (x ≡ y)
same_prefixes [] [] x y size e = (refl, e)
same_prefixes [] (second ∷ b) x y size e = absurd (omega (arith, size))
same_prefixes (first ∷ a) [] x y size e = absurd (omega (arith, size))
same_prefixes (first ∷ a) (second ∷ b) x y size e =
    let others = same_prefixes a b x y (omega (arith, size)) (ap (λ (l : List ℕ). drop 1 l) e) in
    let head : first ≡ second = ap (λ (l : List ℕ). slice_index l 0) e in
    (rw (head, others.0) refl, others.1)

-- ---- two columns

-- The two columns of a number below 100: a digit and a space, or two digits.
one_digit : (n : ℕ) → n < 10 → two_columns n ≡ (48 + n) ∷ 32 ∷ []
one_digit n lt = ap (λ (l : List ℕ). l ++ replicate (2 - length l) 32) (decimal_digit n lt)

two_digits_are : (n : ℕ) → 10 ≤ n → n < 24 → decimal n ≡ (48 + n / 10) ∷ (48 + n % 10) ∷ []
two_digits_are n ge lt =
    decimal_step n ge (omega (arith, lt)) ∙ ap (λ (l : List ℕ). l ++ (48 + n % 10) ∷ []) (decimal_digit (n / 10) (omega (arith, lt)))

pub two_digits : (n : ℕ) → 10 ≤ n → n < 24 → two_columns n ≡ (48 + n / 10) ∷ (48 + n % 10) ∷ []
two_digits n ge lt = ap (λ (l : List ℕ). l ++ replicate (2 - length l) 32) (two_digits_are n ge lt)

-- What stands in two columns.
pub record InColumns (number : ℕ) : Type 0 where
  pub first : ℕ
  pub second : ℕ
  pub are : two_columns number ≡ first ∷ second ∷ []
  pub kind : ((second ≡ 32) × (decimal number ≡ first ∷ []))
      ⊎ ((48 ≤ second) × (decimal number ≡ first ∷ second ∷ []))

pub in_columns : (n : ℕ) → n < 24 → InColumns n
in_columns n lt =
    elim (cases_lt n 10) [
      | inl small ↦ record {
        first = 48 + n;
        second = 32;
        are = one_digit n small;
        kind = inl (refl, decimal_digit n small);
      }
      | inr large ↦ record {
        first = 48 + n / 10;
        second = 48 + n % 10;
        are = two_digits n large lt;
        kind = inr (omega arith, two_digits_are n large lt);
      }
    ]

pub columns_length : (n : ℕ) → n < 24 → length (two_columns n) ≡ 2
columns_length n lt = ap length (in_columns n lt).are

-- A number is known by its two columns.
pub columns_injective : (n m : ℕ) → n < 24 → m < 24 → two_columns n ≡ two_columns m → n ≡ m
columns_injective n m n-lt m-lt same =
    let p = in_columns n n-lt in
    let q = in_columns m m-lt in
    let e : p.first ∷ p.second ∷ [] ≡ q.first ∷ q.second ∷ [] = sym p.are ∙ same ∙ q.are in
    let firsts : p.first ≡ q.first = cc in
    let seconds : p.second ≡ q.second = cc in
    elim p.kind [
      | inl short ↦ elim q.kind [
        | inl other ↦ decimal_injective n m (omega (arith, n-lt)) (omega (arith, m-lt))
            (short.1 ∙ ap (λ (x : ℕ). x ∷ []) firsts ∙ sym other.1)
        | inr other ↦ absurd (omega (arith, short.0, other.0, seconds))
      ]
      | inr long ↦ elim q.kind [
        | inl other ↦ absurd (omega (arith, long.0, other.0, seconds))
        | inr other ↦ decimal_injective n m (omega (arith, n-lt)) (omega (arith, m-lt)) (long.1 ∙ e ∙ sym other.1)
      ]
    ]

-- What is left of two columns without a space at their end is the number.
pub columns_stripped : (number : Bor (List ℕ)) (found : Option (Bor (List ℕ))) (n : ℕ) → n < 24 → number.now ≡ two_columns n
    → IfSome found (λ prefix. number.now ≡ prefix.now ++ codes " ") → IfNone found ((prefix : List ℕ) → number.now ≡ prefix ++ codes " " → ⊥)
    → (unwrap_or found number).now ≡ decimal n
columns_stripped number (Some prefix) n lt is cut none =
    let p = in_columns n lt in
    let e : prefix.now ++ 32 ∷ [] ≡ (p.first ∷ []) ++ p.second ∷ [] = sym cut ∙ is ∙ p.are in
    let sizes : length (prefix.now ++ 32 ∷ []) ≡ 2 = ap length e in
    let parts = same_prefixes prefix.now (p.first ∷ []) (32 ∷ []) (p.second ∷ [])
    (omega (arith, sizes, length-append prefix.now (32 ∷ []))) e in
    let space : p.second ≡ 32 = sym (ap (λ (l : List ℕ). slice_index l 0) parts.1) in
    elim p.kind [
      | inl short ↦ parts.0 ∙ sym short.1
      | inr long ↦ absurd (omega (arith, long.0, space))
    ]
columns_stripped number None n lt is cut none =
    let p = in_columns n lt in
    elim p.kind [
      | inl short ↦ absurd (none (p.first ∷ []) (is ∙ p.are ∙ ap (λ (x : ℕ). p.first ∷ x ∷ []) short.0))
      | inr long ↦ is ∙ p.are ∙ sym long.1
    ]

-- The two columns at the start of a text.
pub columns_prefix : (text rest : List ℕ) (n : ℕ) → n < 24 → text ≡ two_columns n ++ rest → take 2 text ≡ two_columns n
columns_prefix text rest n lt is =
    let p = in_columns n lt in
    ap (take 2) (is ∙ ap (λ (l : List ℕ). l ++ rest) p.are) ∙ sym p.are

-- ---- what a line says

-- The third byte of a bank line is one of its name's, and that of a line that begins with four spaces is a space.
bank_third : (line name : List ℕ) → IsBankLine line name → is_name_byte (slice_index line 2) ≡ true
bank_third line [] is = absurd (omega (arith, is.some))
bank_third line (byte ∷ name) is =
    ap (λ (l : List ℕ). is_name_byte (slice_index l 2)) is.spelled ∙ (and_parts (is_name_byte byte) (list_all is_name_byte name) is.all_name).0

pub no_bank_below : (line name rest : List ℕ) → IsBankLine line name → line ≡ codes "    " ++ rest → ⊥
no_bank_below line name rest is below =
    let third : is_name_byte 32 ≡ true = sym (ap (λ (l : List ℕ). is_name_byte (slice_index l 2)) below) ∙ bank_third line name is in
    absurd cc

pub no_bank_empty : (line name : List ℕ) → IsBankLine line name → line ≡ [] → ⊥
no_bank_empty line name is empty =
    let third : is_name_byte 0 ≡ true = sym (ap (λ (l : List ℕ). is_name_byte (slice_index l 2)) empty) ∙ bank_third line name is in
    absurd cc

pub one_bank : (line name other : List ℕ) → IsBankLine line name → IsBankLine line other → name ≡ other
one_bank line name other is another =
    append_cancel_right name other (codes ":") (ap (λ (l : List ℕ). drop 2 l) (sym is.spelled ∙ another.spelled))

-- A line gives one value to one register.
pub one_value : (bank line : List ℕ) (e other : Expected) → IsValueLine bank line e → IsValueLine bank line other → e ≡ other
one_value bank line e other is another =
    let rest : two_columns e.register ++ (codes ": 0x" ++ is.digits) ≡ two_columns other.register ++ (codes ": 0x" ++ another.digits) =
    ap (λ (l : List ℕ). drop 4 l) (sym is.spelled ∙ another.spelled) in
    let parts = same_prefixes (two_columns e.register) (two_columns other.register) (codes ": 0x" ++ is.digits) (codes ": 0x" ++ another.digits)
    (columns_length e.register is.exists ∙ sym (columns_length other.register another.exists)) rest in
    same_expected e other is.digits another.digits (same_name_is e.alg other.alg (is.bank_is ∙ sym another.bank_is))
    (columns_injective e.register other.register is.exists another.exists parts.0) (ap (λ (l : List ℕ). drop 4 l) parts.1)
    is.alg_is another.alg_is is.value_is another.value_is

skipped_bank : (position next : Position) (line : List ℕ) → IsSkipped position line → Begins line next → ⊥
skipped_bank position None line skipped begins = begins
skipped_bank None (Some name) line empty begins = no_bank_empty line name begins empty
skipped_bank (Some bank) (Some name) line skipped begins =
    elim skipped [
      | inl empty ↦ no_bank_empty line name begins empty
      | inr foreign ↦ no_bank_below line name foreign.rest begins foreign.spelled
    ]

value_not_empty : (bank line : List ℕ) (e : Expected) → IsValueLine bank line e → line ≡ [] → ⊥
value_not_empty bank line e is empty =
    let whole : [] ≡ codes "    " ++ (two_columns e.register ++ (codes ": 0x" ++ is.digits)) = sym empty ∙ is.spelled in
    absurd cc

skipped_value : (position : Position) (line : List ℕ) (e : Expected) → IsSkipped position line → GivesValue position line e → ⊥
skipped_value None line e skipped gives = gives
skipped_value (Some bank) line e skipped gives =
    elim skipped [
      | inl empty ↦ value_not_empty bank line e gives empty
      | inr foreign ↦ foreign.unknown e.alg gives.bank_is
    ]

bank_value : (position next : Position) (line : List ℕ) (e : Expected) → Begins line next → GivesValue position line e → ⊥
bank_value position None line e begins gives = begins
bank_value None (Some name) line e begins gives = gives
bank_value (Some bank) (Some name) line e begins gives =
    no_bank_below line name (two_columns e.register ++ (codes ": 0x" ++ gives.digits)) begins gives.spelled

one_position : (line : List ℕ) (next other : Position) → Begins line next → Begins line other → next ≡ other
one_position line None other p q = absurd p
one_position line (Some name) None p q = absurd q
one_position line (Some name) (Some other) p q = ap (λ (l : List ℕ). Some l) (one_bank line name other p q)

no_value_here : (position next : Position) (line : List ℕ) (e : Expected) → Says position line next None → GivesValue position line e → ⊥
no_value_here position next line e says gives =
    elim says [
      | inl skipped ↦ skipped_value position line e skipped.0 gives
      | inr begins ↦ bank_value position next line e begins gives
    ]

value_here : (position : Position) (line : List ℕ) (e other : Expected) → GivesValue position line e → GivesValue position line other → e ≡ other
value_here None line e other p q = absurd p
value_here (Some bank) line e other p q = one_value bank line e other p q

-- A line says one thing.
say_once : (position next other : Position) (line : List ℕ) (first second : Option Expected) → Says position line next first
    → Says position line other second → (next ≡ other) × (first ≡ second)
say_once position next other line None None p q =
    elim p [
      | inl skipped ↦ elim q [
        | inl also ↦ (skipped.1 ∙ sym also.1, refl)
        | inr begins ↦ absurd (skipped_bank position other line skipped.0 begins)
      ]
      | inr begins ↦ elim q [
        | inl skipped ↦ absurd (skipped_bank position next line skipped.0 begins)
        | inr also ↦ (one_position line next other begins also, refl)
      ]
    ]
say_once position next other line None (Some e) p q = absurd (no_value_here position next line e p q.0)
say_once position next other line (Some e) None p q = absurd (no_value_here position other line e q p.0)
say_once position next other line (Some e) (Some second) p q =
    (p.1 ∙ sym q.1, ap (λ (x : Expected). Some x) (value_here position line e second p.0 q.0))

pub says_once : SaysOnce Says
says_once = record { once = say_once }

-- ---- why a line gives no value

-- What stands after the two columns of a line that gives a register its value.
pub after_columns : (bank line text rest : List ℕ) (n : ℕ) (e : Expected) → n < 24 → line ≡ codes "    " ++ text
    → text ≡ two_columns n ++ rest → (is : IsValueLine bank line e) → rest ≡ codes ": 0x" ++ is.digits
after_columns bank line text rest n e lt below columns is =
    let same : two_columns n ++ rest ≡ two_columns e.register ++ (codes ": 0x" ++ is.digits) =
    sym columns ∙ ap (λ (l : List ℕ). drop 4 l) (sym below ∙ is.spelled) in
    (same_prefixes (two_columns n) (two_columns e.register) rest (codes ": 0x" ++ is.digits)
    (columns_length n lt ∙ sym (columns_length e.register is.exists)) same).1

-- A line whose digits are no value of this algorithm gives none.
pub no_value_in : (line text rest digits : List ℕ) (n : ℕ) (alg : Alg) (e : Expected) → n < 24 → line ≡ codes "    " ++ text
    → text ≡ two_columns n ++ rest → rest ≡ codes ": 0x" ++ digits
    → ((length digits ≡ 2 * size_of alg) × AllPass is_hex_digit digits → ⊥) → IsValueLine (name_of alg) line e → ⊥
no_value_in line text rest digits n alg e lt below columns mark none is =
    let after = after_columns (name_of alg) line text rest n e lt below columns is in
    let digits-are : digits ≡ is.digits = ap (λ (l : List ℕ). drop 4 l) (sym mark ∙ after) in
    let same : alg ≡ e.alg = sym (same_name_is e.alg alg is.bank_is) in
    let spelled = decode_of-ok is.digits (bytes_of e.value) is.value_is in
    let size : length is.digits ≡ 2 * size_of e.alg = spelled.2 ∙ ap (λ (n : ℕ). 2 * n) is.value_size in
    none (rw (same, digits-are) (size, spelled.1))
