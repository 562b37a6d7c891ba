-- Selections: how their texts are cut into parts, and what these select.
use Rattle.std.proofs.Common.{rules, ◌≡◌, ℕ, zero, suc, ◌+◌, ◌-◌, ◌<◌, true, false, List, [], ◌∷◌, ◌++◌, length, take, take_all, drop, slice_index, Option, Some, None, option_map, Bor, refl, sym, ap, ◌∙◌, inl, inr, arith, append_assoc, ◌==◌}
use Rattle.std.specs.Prelude.{IfSome}
use Rattle.std.specs.List.{AllByRecursion}
use Rattle.std.specs.Str.Iter.{LacksByte}
use Rattle.std.proofs.lemmas.Bool.{both_ways, cases_Bool}
use Rattle.std.proofs.lemmas.List.{length-drop}
use Rattle.pcr_banks.specs.declared.alg.Alg.{Alg}
use Rattle.pcr_banks.specs.Names.{name_of}
use Rattle.pcr_banks.proofs.AlgLaws.{every_alg, same_name_is}
use Rattle.pcr_values.specs.declared.selection.RegisterRange.{RegisterRange}
use Rattle.pcr_values.specs.declared.selection.BankRange.{BankRange}
use Rattle.pcr_values.specs.Names.{AreBankRanges, BeginsWithBankRange, IsBankRangeText, IsFirstWrong, IsNamedRange, IsRangeText, IsSplitOnce, SpellsRanges, bank_after, is_separator, parts_left, parts_length, split_at_separators}
use Rattle.pcr_values.proofs.ExpectedLaws.{Lacks, lacks_from, not_lacked, one_cut}
use Rattle.pcr_values.proofs.RangeLaws.{range_lacks_colon, range_once}

-- ---- the colon of a part

-- No byte is a colon.
abbrev NoColon : List ℕ → Type 0
NoColon bytes = AllByRecursion (λ byte. (byte == 58) ≡ false) bytes

lacks_colon : (bytes : List ℕ) → NoColon bytes → Lacks 58 bytes
lacks_colon [] all = tt
lacks_colon (first ∷ bytes) all =
    (λ e. both_ways (first == 58) all.0 (rw e refl), lacks_colon bytes all.1)

name_no_colon : (alg : Alg) → NoColon (name_of alg)
name_no_colon = every_alg _ (search rules)

pub name_lacks : (alg : Alg) → Lacks 58 (name_of alg)
name_lacks alg = lacks_colon (name_of alg) (name_no_colon alg)

-- A part without a colon names no bank.
not_named : (text : List ℕ) (bank : BankRange) → Lacks 58 text → IsNamedRange text bank → ⊥
not_named text bank lacks is =
    let whole : Lacks 58 (name_of is.alg ++ 58 ∷ is.registers) = rw is.spelled at lacks in
    not_lacked 58 (name_of is.alg) is.registers whole

pub no_colon : (before : Option Alg) (text : List ℕ) (bank : BankRange) → LacksByte 58 text
    → ((range : RegisterRange) → IsRangeText text range → ⊥) → IsBankRangeText before text bank → ⊥
no_colon before text bank lacks none is =
    elim is [
      | inl named ↦ not_named text bank (lacks_from 58 text lacks) named
      | inr bare ↦ none bank.range bare.1
    ]

-- What a part with a colon has before it and after it, if it selects registers.
sides : (before : Option Alg) (text name rest : List ℕ) (bank : BankRange) → IsSplitOnce 58 text name rest → IsBankRangeText before text bank
    → (alg : Alg) × (name ≡ name_of alg) × IsRangeText rest bank.range
sides before text name rest bank cut is =
    elim is [
      | inl named ↦
          let cuts = one_cut 58 name (name_of named.alg) rest named.registers (lacks_from 58 name cut.lacks) (name_lacks named.alg)
          (sym cut.parts ∙ named.spelled) in
          (named.alg, cuts.0, rw cuts.1 named.range_is)
      | inr bare ↦
          let whole : Lacks 58 (name ++ 58 ∷ rest) = rw cut.parts at (range_lacks_colon text bank.range bare.1) in
          absurd (not_lacked 58 name rest whole)
    ]

pub no_alg : (before : Option Alg) (text name rest : List ℕ) (bank : BankRange) → IsSplitOnce 58 text name rest
    → ((alg : Alg) → name_of alg ≡ name → ⊥) → IsBankRangeText before text bank → ⊥
no_alg before text name rest bank cut unknown is =
    let side = sides before text name rest bank cut is in
    unknown side.0 (sym side.1)

pub no_range : (before : Option Alg) (text name rest : List ℕ) (bank : BankRange) → IsSplitOnce 58 text name rest
    → ((range : RegisterRange) → IsRangeText rest range → ⊥) → IsBankRangeText before text bank → ⊥
no_range before text name rest bank cut none is = none bank.range (sides before text name rest bank cut is).2

-- ---- the separators of a text

pub cut_first : (text : List ℕ) (k : ℕ) → k < length text → ((j : ℕ) → j < k → is_separator (slice_index text j) ≡ true → ⊥)
    → is_separator (slice_index text k) ≡ true → split_at_separators text ≡ take k text ∷ split_at_separators (drop (suc k) text)
cut_first [] k lt before here = absurd (omega (arith, lt))
cut_first (first ∷ text) zero lt before here = rw here refl
cut_first (first ∷ text) (suc k) lt before here =
    let others = cut_first text k (omega (arith, lt)) (λ j below. before (suc j) (omega (arith, below))) here in
    elim (cases_Bool (is_separator first)) [
      | inl is ↦ absurd (before 0 (omega arith) is)
      | inr not ↦ rw (not, others) refl
    ]

pub uncut : (text : List ℕ) → ((j : ℕ) → j < length text → is_separator (slice_index text j) ≡ true → ⊥)
    → split_at_separators text ≡ text ∷ []
uncut [] none = refl
uncut (first ∷ text) none =
    let others = uncut text (λ j below. none (suc j) (omega (arith, below))) in
    elim (cases_Bool (is_separator first)) [
      | inl is ↦ absurd (none 0 (omega arith) is)
      | inr not ↦ rw (not, others) refl
    ]

-- What follows a place is all that is left.
pub rest_whole : (text : List ℕ) (k : ℕ) → drop (suc k) text ≡ take (length text - (k + 1)) (drop (k + 1) text)
rest_whole text k =
    let same : suc k ≡ k + 1 = omega arith in
    let long = length-drop (k + 1) text in
    ap (λ (n : ℕ). drop n text) same ∙ sym (take_all (length text - (k + 1)) (drop (k + 1) text) (omega (arith, long)))

-- ---- one reading

same_bank : (first second : BankRange) → first.alg ≡ second.alg → first.range ≡ second.range → first ≡ second
same_bank first second algs ranges = λ i. record { alg = algs i; range = ranges i }

bank_range_once : (before : Option Alg) (part : List ℕ) (first second : BankRange) → IsBankRangeText before part first
    → IsBankRangeText before part second → first ≡ second
bank_range_once before part first second is another =
    elim is [
      | inl named ↦ elim another [
        | inl also ↦
            let cut = one_cut 58 (name_of named.alg) (name_of also.alg) named.registers also.registers (name_lacks named.alg)
            (name_lacks also.alg) (sym named.spelled ∙ also.spelled) in
            let algs : named.alg ≡ also.alg = same_name_is named.alg also.alg cut.0 in
            same_bank first second (named.alg_is ∙ ap (λ (a : Alg). Some a) algs ∙ sym also.alg_is)
            (range_once named.registers first.range second.range named.range_is (rw cut.1 also.range_is))
        | inr bare ↦ absurd (not_named part first (range_lacks_colon part second.range bare.1) named)
      ]
      | inr bare ↦ elim another [
        | inl named ↦ absurd (not_named part second (range_lacks_colon part first.range bare.1) named)
        | inr also ↦ same_bank first second (bare.0 ∙ sym also.0) (range_once part first.range second.range bare.1 also.1)
      ]
    ]

are_once : (before : Option Alg) (parts : List (List ℕ)) (first second : List BankRange) → AreBankRanges before parts first
    → AreBankRanges before parts second → first ≡ second
are_once before [] first second p q = p ∙ sym q
are_once before (part ∷ parts) [] second p q = absurd p
are_once before (part ∷ parts) (a ∷ first) [] p q = absurd q
are_once before (part ∷ parts) (a ∷ first) (b ∷ second) p q =
    let here = bank_range_once before part a b p.0 q.0 in
    let others = are_once a.alg parts first second p.1 (rw (ap (λ (x : BankRange). x.alg) here) q.1) in
    λ i. here i ∷ others i

-- A text selects one list of ranges.
pub ranges_once : (text : List ℕ) (first second : List BankRange) → SpellsRanges text first → SpellsRanges text second → first ≡ second
ranges_once text first second is another = are_once None (split_at_separators text) first second is another

-- ---- part by part

-- The parts before `rest` select these ranges.
pub record ReadsParts (text : List ℕ) (ranges : List BankRange) (rest : Option (Bor (List ℕ))) : Type 0 where
  pub before : List (List ℕ)
  pub parts : split_at_separators text ≡ before ++ parts_left (option_map (λ left. left.now) rest)
  pub are : AreBankRanges None before ranges
  pub begins : IfSome rest (λ left. parts_length before + length left.now ≡ length text)

-- Nothing is read yet.
pub reads_none : (text : Bor (List ℕ)) → ReadsParts text.now [] (Some text)
reads_none text = record { before = []; parts = refl; are = refl; begins = omega arith }

one_more : (bank : Option Alg) (before : List (List ℕ)) (part : List ℕ) (ranges : List BankRange) (new : BankRange)
    → AreBankRanges bank before ranges → IsBankRangeText (bank_after bank ranges) part new
    → AreBankRanges bank (before ++ part ∷ []) (ranges ++ new ∷ [])
one_more bank [] part [] new none is = (is, refl)
one_more bank [] part (x ∷ ranges) new none is = absurd cc
one_more bank (first ∷ before) part [] new are is = absurd are
one_more bank (first ∷ before) part (x ∷ ranges) new are is = (are.0, one_more x.alg before part ranges new are.1 is)

pub bank_after_more : (bank : Option Alg) (ranges : List BankRange) (new : BankRange) → bank_after bank (ranges ++ new ∷ []) ≡ new.alg
bank_after_more bank [] new = refl
bank_after_more bank (x ∷ ranges) new = bank_after_more x.alg ranges new

-- The parts of the text, where the next one is known.
parts_next : (text part : List ℕ) (ranges : List BankRange) (left : Bor (List ℕ)) (rest : Option (Bor (List ℕ)))
    → (on : ReadsParts text ranges (Some left)) → split_at_separators left.now ≡ part ∷ parts_left (option_map (λ r. r.now) rest)
    → split_at_separators text ≡ on.before ++ part ∷ parts_left (option_map (λ r. r.now) rest)
parts_next text part ranges left rest on next = on.parts ∙ ap (λ (l : List (List ℕ)). on.before ++ l) next

length_more : (before : List (List ℕ)) (part : List ℕ) → parts_length (before ++ part ∷ []) ≡ parts_length before + suc (length part)
length_more [] part = omega arith
length_more (first ∷ before) part = let others = length_more before part in omega (arith, others)

begins_more : (text part : List ℕ) (before : List (List ℕ)) (left : Bor (List ℕ)) (rest : Option (Bor (List ℕ)))
    → parts_length before + length left.now ≡ length text
    → IfSome rest (λ r. length left.now ≡ suc (length part + length r.now))
    → IfSome rest (λ r. parts_length (before ++ part ∷ []) + length r.now ≡ length text)
begins_more text part before left None begins is = tt
begins_more text part before left (Some r) begins is = let more = length_more before part in omega (arith, begins, is, more)

-- One more part is read.
pub reads_more : (text part : List ℕ) (ranges : List BankRange) (new : BankRange) (left : Bor (List ℕ)) (rest : Option (Bor (List ℕ)))
    → ReadsParts text ranges (Some left) → split_at_separators left.now ≡ part ∷ parts_left (option_map (λ r. r.now) rest)
    → IfSome rest (λ r. length left.now ≡ suc (length part + length r.now))
    → IsBankRangeText (bank_after None ranges) part new → ReadsParts text (ranges ++ new ∷ []) rest
reads_more text part ranges new left rest on next longer is = record {
  before = on.before ++ part ∷ [];
  parts = parts_next text part ranges left rest on next
      ∙ sym (append_assoc on.before (part ∷ []) (parts_left (option_map (λ r. r.now) rest)));
  are = one_more None on.before part ranges new on.are is;
  begins = begins_more text part on.before left rest on.begins longer;
}

spelled_among : (bank : Option Alg) (before others : List (List ℕ)) (part : List ℕ) (earlier ranges : List BankRange)
    → AreBankRanges bank before earlier → AreBankRanges bank (before ++ part ∷ others) ranges
    → (new : BankRange) × IsBankRangeText (bank_after bank earlier) part new
spelled_among bank [] others part earlier [] none are = absurd are
spelled_among bank [] others part [] (new ∷ ranges) none are = (new, are.0)
spelled_among bank [] others part (x ∷ earlier) (new ∷ ranges) none are = absurd cc
spelled_among bank (first ∷ before) others part [] ranges some are = absurd some
spelled_among bank (first ∷ before) others part (x ∷ earlier) [] some are = absurd are
spelled_among bank (first ∷ before) others part (x ∷ earlier) (y ∷ ranges) some are =
    let here = bank_range_once bank first x y some.0 are.0 in
    spelled_among x.alg before others part earlier ranges some.1 (rw (ap (λ (b : BankRange). b.alg) here) are.1)

-- Each part of a text that selects registers selects some.
pub part_selects : (text part : List ℕ) (earlier ranges : List BankRange) (left : Bor (List ℕ)) (rest : Option (Bor (List ℕ)))
    → ReadsParts text earlier (Some left) → split_at_separators left.now ≡ part ∷ parts_left (option_map (λ r. r.now) rest)
    → SpellsRanges text ranges → (new : BankRange) × IsBankRangeText (bank_after None earlier) part new
part_selects text part earlier ranges left rest on next is =
    let are : AreBankRanges None (on.before ++ part ∷ parts_left (option_map (λ r. r.now) rest)) ranges =
    rw (parts_next text part earlier left rest on next) at is in
    spelled_among None on.before (parts_left (option_map (λ r. r.now) rest)) part earlier ranges on.are are

-- A part that selects nothing after parts that do is the first that is wrong.
pub first_wrong : (text part : List ℕ) (ranges : List BankRange) (at : ℕ) (left : Bor (List ℕ)) (rest : Option (Bor (List ℕ)))
    → ReadsParts text ranges (Some left) → split_at_separators left.now ≡ part ∷ parts_left (option_map (λ r. r.now) rest)
    → ((bank : BankRange) → IsBankRangeText (bank_after None ranges) part bank → ⊥) → at + length left.now ≡ length text
    → IsFirstWrong text at
first_wrong text part ranges at left rest on next none begins = record {
  before = on.before;
  part = part;
  others = parts_left (option_map (λ r. r.now) rest);
  ranges = ranges;
  parts = parts_next text part ranges left rest on next;
  selected = on.are;
  wrong = none;
  begins = let earlier = on.begins in omega (arith, begins, earlier);
}

begins_with : (text part : List ℕ) (before others : List (List ℕ)) (ranges : List BankRange) (new : BankRange)
    → split_at_separators text ≡ before ++ part ∷ others → AreBankRanges None before ranges
    → IsBankRangeText (bank_after None ranges) part new → BeginsWithBankRange text
begins_with text part [] others [] new parts are is =
    record { first = part; others = others; bank = new; parts = parts; first_is = is }
begins_with text part [] others (x ∷ ranges) new parts are is = absurd cc
begins_with text part (first ∷ before) others [] new parts are is = absurd are
begins_with text part (first ∷ before) others (bank ∷ ranges) new parts are is =
    record { first = first; others = before ++ part ∷ others; bank = bank; parts = parts; first_is = are.0 }

-- The next part selects registers, so the first one does.
pub begins_with_range : (text part : List ℕ) (ranges : List BankRange) (new : BankRange) (left : Bor (List ℕ)) (rest : Option (Bor (List ℕ)))
    → ReadsParts text ranges (Some left) → split_at_separators left.now ≡ part ∷ parts_left (option_map (λ r. r.now) rest)
    → IsBankRangeText (bank_after None ranges) part new → BeginsWithBankRange text
begins_with_range text part ranges new left rest on next is =
    begins_with text part on.before (parts_left (option_map (λ r. r.now) rest)) ranges new
    (parts_next text part ranges left rest on next) on.are is
