-- Ranges of registers: where a text that spells one has its hyphen.
use Rattle.std.proofs.Common.{rules, ◌≡◌, ℕ, ◌^◌, ◌<◌, ◌≤◌, List, [], ◌∷◌, ◌++◌, decimal, codes, sym, ap, ◌∙◌, subst, inl, inr, arith}
use Rattle.std.specs.Str.Parse.{AllDigits}
use Rattle.std.proofs.lemmas.Fmt.{decimal_is_IsNumeral, decimal_injective}
use Rattle.std.proofs.lemmas.Str.Parse.{digit_from_value}
use Rattle.pcr_banks.specs.Names.{register_count}
use Rattle.pcr_values.specs.declared.selection.RegisterRange.{RegisterRange}
use Rattle.pcr_values.specs.Names.{AreEnds, IsNumberedRange, IsRangeText}
use Rattle.pcr_values.proofs.ExpectedLaws.{Lacks, lacks_from, not_lacked, one_cut}

digits_lack_hyphen : (digits : List ℕ) → AllDigits 10 digits → Lacks 45 digits
digits_lack_hyphen [] all = tt
digits_lack_hyphen (first ∷ digits) all =
    let within = digit_from_value first all.0 in
    (λ e. absurd (omega (arith, within, e)), digits_lack_hyphen digits all.1)

pub decimal_lacks_hyphen : (n : ℕ) → n < 2 ^ 64 → Lacks 45 (decimal n)
decimal_lacks_hyphen n small = digits_lack_hyphen (decimal n) ((decimal_is_IsNumeral n small).0.1)

-- A text whose ends are these numbers spells the range.
pub range_spelled : (text first last : List ℕ) (range : RegisterRange) → AreEnds text first last
    → first ≡ decimal range.first → last ≡ decimal range.last → range.first ≤ range.last → range.last < register_count
    → IsNumberedRange text range
range_spelled text first last range ends first-is last-is ordered exist =
    elim ends [
      | inl cut ↦ record {
        ordered = ordered;
        exist = exist;
        spelled = inl (cut.parts ∙ ap (λ (l : List ℕ). l ++ 45 ∷ last) first-is
            ∙ ap (λ (l : List ℕ). decimal range.first ++ 45 ∷ l) last-is);
      }
      | inr whole ↦ record {
        ordered = ordered;
        exist = exist;
        spelled = inr (
          decimal_injective range.first range.last (omega (arith, ordered, exist)) (omega (arith, exist))
              (sym first-is ∙ whole.1 ∙ sym whole.2 ∙ last-is),
          sym whole.1 ∙ first-is,
        );
      }
    ]

-- The ends of a text that spells a range are its numbers.
pub range_ends : (text first last : List ℕ) (range : RegisterRange) → AreEnds text first last → IsNumberedRange text range
    → (first ≡ decimal range.first) × (last ≡ decimal range.last)
range_ends text first last range ends is =
    let small = decimal_lacks_hyphen range.first (omega (arith, is.ordered, is.exist)) in
    elim ends [
      | inl cut ↦ elim is.spelled [
        | inl two ↦ one_cut 45 first (decimal range.first) last (decimal range.last) (lacks_from 45 first cut.lacks) small
            (sym cut.parts ∙ two)
        | inr one ↦
            let whole : Lacks 45 (first ++ 45 ∷ last) = rw (sym cut.parts ∙ one.1) small in
            absurd (not_lacked 45 first last whole)
      ]
      | inr whole ↦ elim is.spelled [
        | inl two ↦
            let all : Lacks 45 (decimal range.first ++ 45 ∷ decimal range.last) = rw two at (lacks_from 45 text whole.0) in
            absurd (not_lacked 45 (decimal range.first) (decimal range.last) all)
        | inr one ↦ (whole.1 ∙ one.1, whole.2 ∙ one.1 ∙ ap decimal one.0)
      ]
    ]

-- A text whose second number is below its first spells no range.
pub not_ordered : (text first last : List ℕ) (range : RegisterRange) (n m : ℕ) → n < register_count → m < register_count
    → AreEnds text first last → first ≡ decimal n → last ≡ decimal m → m < n → IsNumberedRange text range → ⊥
not_ordered text first last range n m n-lt m-lt ends first-is last-is below is =
    let are = range_ends text first last range ends is in
    let firsts = decimal_injective n range.first (omega (arith, n-lt)) (omega (arith, is.ordered, is.exist)) (sym first-is ∙ are.0) in
    let lasts = decimal_injective m range.last (omega (arith, m-lt)) (omega (arith, is.exist)) (sym last-is ∙ are.1) in
    omega (arith, firsts, lasts, below, is.ordered)

same_range : (first second : RegisterRange) → first.first ≡ second.first → first.last ≡ second.last → first ≡ second
same_range first second firsts lasts =
    ap (λ (n : ℕ). let x : RegisterRange = record { first = n; last = first.last } in x) firsts
    ∙ ap (λ (n : ℕ). let x : RegisterRange = record { first = second.first; last = n } in x) lasts

-- A text has the numbers of one range.
numbers_once : (text : List ℕ) (first second : RegisterRange) → IsNumberedRange text first → IsNumberedRange text second → first ≡ second
numbers_once text first second is another =
    let a : first.first < 2 ^ 64 = omega (arith, is.ordered, is.exist) in
    let b : first.last < 2 ^ 64 = omega (arith, is.exist) in
    let c : second.first < 2 ^ 64 = omega (arith, another.ordered, another.exist) in
    let d : second.last < 2 ^ 64 = omega (arith, another.exist) in
    elim is.spelled [
      | inl two ↦ elim another.spelled [
        | inl also ↦
            let cut = one_cut 45 (decimal first.first) (decimal second.first) (decimal first.last) (decimal second.last)
            (decimal_lacks_hyphen first.first a) (decimal_lacks_hyphen second.first c) (sym two ∙ also) in
            same_range first second (decimal_injective first.first second.first a c cut.0) (decimal_injective first.last second.last b d cut.1)
        | inr one ↦
            let whole : Lacks 45 (decimal first.first ++ 45 ∷ decimal first.last) =
            rw (sym two ∙ one.1) (decimal_lacks_hyphen second.first c) in
            absurd (not_lacked 45 (decimal first.first) (decimal first.last) whole)
      ]
      | inr one ↦ elim another.spelled [
        | inl two ↦
            let whole : Lacks 45 (decimal second.first ++ 45 ∷ decimal second.last) =
            rw (sym two ∙ one.1) (decimal_lacks_hyphen first.first a) in
            absurd (not_lacked 45 (decimal second.first) (decimal second.last) whole)
        | inr also ↦
            let firsts = decimal_injective first.first second.first a c (sym one.1 ∙ also.1) in
            same_range first second firsts (sym one.0 ∙ firsts ∙ also.0)
      ]
    ]

-- ---- all registers

-- No number is `all`.
all_no_number : (n : ℕ) → n < 2 ^ 64 → codes "all" ≡ decimal n → ⊥
all_no_number n small is =
    let digits : AllDigits 10 (codes "all") = subst (λ (l : List ℕ). AllDigits 10 l) (sym is) ((decimal_is_IsNumeral n small).0.1) in
    let within = digit_from_value 97 digits.0 in
    omega (arith, within)

-- `all` has the numbers of no range.
pub all_no_numbers : (range : RegisterRange) → IsNumberedRange (codes "all") range → ⊥
all_no_numbers range is =
    let small : range.first < 2 ^ 64 = omega (arith, is.ordered, is.exist) in
    elim is.spelled [
      | inl two ↦
          let lacks : Lacks 45 (codes "all") = search rules in
          let whole : Lacks 45 (decimal range.first ++ 45 ∷ decimal range.last) = subst (λ (l : List ℕ). Lacks 45 l) two lacks in
          not_lacked 45 (decimal range.first) (decimal range.last) whole
      | inr one ↦ all_no_number range.first small one.1
    ]

-- A text spells one range.
pub range_once : (text : List ℕ) (first second : RegisterRange) → IsRangeText text first → IsRangeText text second → first ≡ second
range_once text first second is another =
    elim is [
      | inl all ↦ elim another [
        | inl also ↦ all.1 ∙ sym also.1
        | inr numbers ↦ absurd (all_no_numbers second (rw all.0 at numbers))
      ]
      | inr numbers ↦ elim another [
        | inl all ↦ absurd (all_no_numbers first (rw all.0 at numbers))
        | inr also ↦ numbers_once text first second numbers also
      ]
    ]

-- The last register of a range exists.
pub range_exists : (text : List ℕ) (range : RegisterRange) → IsRangeText text range → range.last < register_count
range_exists text range is =
    elim is [
      | inl all ↦ rw all.1 (omega arith)
      | inr numbers ↦ numbers.exist
    ]

-- ---- no colon

digits_lack_colon : (digits : List ℕ) → AllDigits 10 digits → Lacks 58 digits
digits_lack_colon [] all = tt
digits_lack_colon (first ∷ digits) all =
    let within = digit_from_value first all.0 in
    (λ e. absurd (omega (arith, within, e)), digits_lack_colon digits all.1)

decimal_lacks_colon : (n : ℕ) → n < 2 ^ 64 → Lacks 58 (decimal n)
decimal_lacks_colon n small = digits_lack_colon (decimal n) ((decimal_is_IsNumeral n small).0.1)

both_lack : (byte : ℕ) (first second : List ℕ) → Lacks byte first → Lacks byte second → Lacks byte (first ++ second)
both_lack byte [] second p q = q
both_lack byte (x ∷ first) second p q = (p.0, both_lack byte first second p.1 q)

-- A text of a range has no colon.
pub range_lacks_colon : (text : List ℕ) (range : RegisterRange) → IsRangeText text range → Lacks 58 text
range_lacks_colon text range is =
    elim is [
      | inl all ↦ rw all.0 (search rules)
      | inr numbers ↦
          let first = decimal_lacks_colon range.first (omega (arith, numbers.ordered, numbers.exist)) in
          let last = decimal_lacks_colon range.last (omega (arith, numbers.exist)) in
          elim numbers.spelled [
            | inl two ↦ rw two (both_lack 58 (decimal range.first) (45 ∷ decimal range.last) first (λ e. absurd (omega (arith, e)), last))
            | inr one ↦ rw one.1 first
          ]
    ]
