-- Longest common subsequences: how long they are, and how marks grow.
use Rattle.std.proofs.Common.{◌≡◌, ◌⊎◌, ◌↔◌, ℕ, ◌+◌, ◌*◌, ◌<◌, ◌≤◌, Bool, true, false, List, [], ◌∷◌, ◌++◌, length, map, take, drop, get_or, set, replicate, Option, None, refl, sym, ap, subst, ◌∙◌, inl, inr, not-suc-le-zero, arith}
use Rattle.std.specs.List.{AllByRecursion}
use Rattle.std.proofs.lemmas.List.{length-append, drop_more, drop_all, get_or-set_same, get_or-set_other, length-set, get_or-replicate, length-replicate, length-map, map-append, drop-append-le, take_at, take_all, get_or_read, length-drop}
use Rattle.std.proofs.lemmas.Bool.{cases_eq, cases_lt, cases_order, iff_false}
use Rattle.pcr_banks.specs.declared.alg.Alg.{Alg}
use Rattle.pcr_banks.specs.declared.digest.Digest.{Digest}
use Rattle.pcr_banks.specs.Names.{digest_for}
use Rattle.boot_log.specs.Names.{LogEvent}
use Rattle.boot_answers.specs.CommonEvents.{IsCommon, IsLongestCommon, compared, marked}
use Rattle.boot_answers.specs.Differences.{AreOne, IsKnown}
use Rattle.boot_answers.specs.Extending.{extended_events}
use Rattle.boot_answers.specs.parts.CommonLengths.{IsFilled, IsLarger, IsLength, IsNext}
use Rattle.boot_answers.proofs.EventLaws.{added_last}

abbrev pub Digests : Type 0
Digests = List (Option Digest)

-- ---- no common subsequence is longer

none_marked : (marks : List Bool) → length (marked {X = Option Digest} marks []) ≡ 0
none_marked [] = refl
none_marked (mark ∷ marks) = refl

-- Without the first of what is marked.
without_first : (marks : List Bool) (xs : Digests) (x : Option Digest) (rest : Digests) → marked marks xs ≡ x ∷ rest
    → (others : List Bool) × (marked others xs ≡ rest)
without_first [] xs x rest e = absurd cc
without_first (mark ∷ marks) [] x rest e = absurd cc
without_first (true ∷ marks) (y ∷ xs) x rest e = (false ∷ marks, cc)
without_first (false ∷ marks) (y ∷ xs) x rest e =
    let more = without_first marks xs x rest e in (false ∷ more.0, more.1)

pub most : (xs ys : Digests) (size : ℕ) → IsLength xs ys size → (marks others : List Bool) → marked marks xs ≡ marked others ys
    → AllByRecursion IsKnown (marked marks xs) → length (marked marks xs) ≤ size
most [] ys size is marks others same known = omega (arith, none_marked marks)
most (x ∷ xs) [] size is marks others same known = omega (arith, ap (λ (l : Digests). length l) same, none_marked others)
most (x ∷ xs) (y ∷ ys) size is [] others same known = omega arith
most (x ∷ xs) (y ∷ ys) size is (mark ∷ marks) [] same known = omega (arith, ap (λ (l : Digests). length l) same)
most (x ∷ xs) (y ∷ ys) size (inl (one, (less, is, rest))) (true ∷ marks) (true ∷ others) same known =
    let tails : marked marks xs ≡ marked others ys = cc in
    omega (arith, is, most xs ys less rest marks others tails known.1)
most (x ∷ xs) (y ∷ ys) size (inl (one, (less, is, rest))) (true ∷ marks) (false ∷ others) same known =
    let (fewer, are) = without_first others ys x (marked marks xs) (sym same) in
    omega (arith, is, most xs ys less rest marks fewer (sym are) known.1)
most (x ∷ xs) (y ∷ ys) size (inl (one, (less, is, rest))) (false ∷ marks) (true ∷ others) same known =
    let (fewer, are) = without_first marks xs y (marked others ys) same in
    let parts = rw same at known in
    omega (
      arith,
      is,
      ap (λ (l : Digests). length l) same,
      ap (λ (l : Digests). length l) are,
      most xs ys less rest fewer others are (rw (sym are) at parts.1),
    )
most (x ∷ xs) (y ∷ ys) size (inl (one, (less, is, rest))) (false ∷ marks) (false ∷ others) same known =
    omega (arith, is, most xs ys less rest marks others same known)
most (x ∷ xs) (y ∷ ys) size (inr (not_one, (first, other, is_first, is_other, larger))) (true ∷ marks) (true ∷ others) same known =
    let heads : x ≡ y = cc in
    absurd (not_one (heads, known.0))
most (x ∷ xs) (y ∷ ys) size (inr (not_one, (first, other, is_first, is_other, larger))) (true ∷ marks) (false ∷ others) same known =
    omega (arith, larger.other_is_less, most (x ∷ xs) ys other is_other (true ∷ marks) others same known)
most (x ∷ xs) (y ∷ ys) size (inr (not_one, (first, other, is_first, is_other, larger))) (false ∷ marks) others same known =
    omega (arith, larger.first_is_less, most xs (y ∷ ys) first is_first marks others same known)

-- ---- lengths

largest : (k l m n size other : ℕ) → k ≡ m → l ≡ n → IsLarger k l size → IsLarger m n other → size ≡ other
largest k l m n size other e f larger larger_too =
    omega (arith, e, f, larger.first_is_less, larger.other_is_less, larger_too.first_is_less, larger_too.other_is_less, larger.one_is, larger_too.one_is)

no_larger : (k l size most : ℕ) → IsLarger k l size → k ≤ most → l ≤ most → size ≤ most
no_larger k l size most larger first other = omega (arith, larger.one_is, first, other)

pub one_length : (xs ys : Digests) (size other : ℕ) → IsLength xs ys size → IsLength xs ys other → size ≡ other
one_length [] ys size other is is_too = is ∙ sym is_too
one_length (x ∷ xs) [] size other is is_too = is ∙ sym is_too
one_length (x ∷ xs) (y ∷ ys) size other (inl (one, (less, is, rest))) (inl (one_too, (less_too, is_too, rest_too))) =
    omega (arith, is, is_too, one_length xs ys less less_too rest rest_too)
one_length (x ∷ xs) (y ∷ ys) size other (inl (one, more)) (inr (not_one, more_too)) = absurd (not_one one)
one_length (x ∷ xs) (y ∷ ys) size other (inr (not_one, more)) (inl (one, more_too)) = absurd (not_one one)
one_length (x ∷ xs) (y ∷ ys) size other (inr (not_one, (k, l, is_k, is_l, larger))) (inr (not_one_too, (m, n, is_m, is_n, larger_too))) =
    largest k l m n size other (one_length xs (y ∷ ys) k m is_k is_m) (one_length (x ∷ xs) ys l n is_l is_n) larger larger_too

pub few_lengths : (xs ys : Digests) (size : ℕ) → IsLength xs ys size → size ≤ length xs
few_lengths [] ys size is = omega (arith, is)
few_lengths (x ∷ xs) [] size is = omega (arith, is)
few_lengths (x ∷ xs) (y ∷ ys) size (inl (one, (less, is, rest))) = omega (arith, is, few_lengths xs ys less rest)
few_lengths (x ∷ xs) (y ∷ ys) size (inr (not_one, (k, l, is_k, is_l, larger))) =
    no_larger k l size (length (x ∷ xs)) larger (omega (arith, few_lengths xs (y ∷ ys) k is_k)) (few_lengths (x ∷ xs) ys l is_l)

none_right : (xs : Digests) (size : ℕ) → size ≡ 0 → IsLength xs [] size
none_right [] size is = is
none_right (x ∷ xs) size is = is

zero_right : (xs : Digests) (size : ℕ) → IsLength xs [] size → size ≡ 0
zero_right [] size is = is
zero_right (x ∷ xs) size is = is

-- One element more of each.
next_length : (x y : Option Digest) (xs ys : Digests) (is_one : Bool) (both first other size : ℕ) → ((is_one ≡ true) ↔ AreOne x y)
    → IsLength xs ys both → IsLength xs (y ∷ ys) first → IsLength (x ∷ xs) ys other → IsNext is_one both first other size
    → IsLength (x ∷ xs) (y ∷ ys) size
next_length x y xs ys true both first other size one is_both is_first is_other next = inl (one.0 refl, (both, next, is_both))
next_length x y xs ys false both first other size one is_both is_first is_other next =
    inr (iff_false one refl, (first, other, is_first, is_other, next))

-- ---- the table

same_cell : (first other place number : ℕ) → other ≤ 256 → number ≤ 256 → first * 257 + other ≡ place * 257 + number
    → (first ≡ place) × (other ≡ number)
same_cell first other place number few fewer same = elim (cases_order first place) [
  | inl e ↦ (e, omega (arith, e, same))
  | inr (inl before) ↦ (omega (arith, before, same, few, fewer), omega (arith, before, same, few, fewer))
  | inr (inr after) ↦ (omega (arith, after, same, few, fewer), omega (arith, after, same, few, fewer))
]

-- The digests that begin what is left.
left_from : (xs : Digests) (place : ℕ) (x : Option Digest) → place < length xs → x ≡ get_or xs place None → drop place xs ≡ x ∷ drop (place + 1) xs
left_from xs place x within is = drop_more xs place None within ∙ ap (λ (d : Option Digest). d ∷ drop (place + 1) xs) (sym is)

module _ (now before : Digests) (cells : List ℕ) (few : length now ≤ 256) (fewer : length before ≤ 256) where
  -- Before the first row.
  pub none_filled : cells ≡ replicate 66049 0 → IsFilled now before (length now * 257) cells
  none_filled are = record {
    size = ap (λ (l : List ℕ). length l) are ∙ length-replicate {A = ℕ} 66049 0;
    border = λ place within. zero_at (place * 257 + length before) (omega (arith, within, few, fewer));
    later = λ place other within within_too from.
        let here : length now ≤ place = omega (arith, from, within_too, fewer) in
        let zero = zero_at (place * 257 + other) (omega (arith, within, within_too, few, fewer)) in
        subst (λ (xs : Digests). IsLength xs (drop other before) (get_or cells (place * 257 + other) 0)) (sym (drop_all place now here)) zero;
  } where
    zero_at : (place : ℕ) → place < 66049 → get_or cells place 0 ≡ 0
    zero_at place within = ap (λ (l : List ℕ). get_or l place 0) are ∙ get_or-replicate 66049 place 0 0 within

  -- Before the first cell of a row.
  pub row_begins : (first : ℕ) → first < length now → IsFilled now before ((first + 1) * 257) cells
      → IsFilled now before (first * 257 + length before) cells
  row_begins first within filled = record {
    size = filled.size;
    border = filled.border;
    later = λ place other inside inside_too from. elim (cases_lt first place) [
      | inl after ↦ filled.later place other inside inside_too (omega (arith, after))
      | inr reached ↦
          let here : place ≡ first = omega (arith, reached, from, inside_too, fewer) in
          let all : length before ≤ other = omega (arith, here, from) in
          let last : place * 257 + length before ≡ place * 257 + other = omega (arith, all, inside_too) in
          let zero = ap (λ (n : ℕ). get_or cells n 0) (sym last) ∙ filled.border place inside in
          subst (λ (ys : Digests). IsLength (drop place now) ys (get_or cells (place * 257 + other) 0)) (sym (drop_all other before all))
          (none_right (drop place now) (get_or cells (place * 257 + other) 0) zero)
    ];
  }

  -- One cell more.
  pub next_cell : (first other value : ℕ) (x y : Option Digest) (is_one : Bool) → first < length now → other < length before
      → x ≡ get_or now first None → y ≡ get_or before other None → ((is_one ≡ true) ↔ AreOne x y)
      → IsFilled now before (first * 257 + (other + 1)) cells
      → IsNext is_one (get_or cells ((first + 1) * 257 + (other + 1)) 0) (get_or cells ((first + 1) * 257 + other) 0)
      (get_or cells (first * 257 + (other + 1)) 0) value
      → IsFilled now before (first * 257 + other) (set cells (first * 257 + other) value)
  next_cell first other value x y is_one within within_too x_is y_is one filled next = record {
    size = length-set cells (first * 257 + other) value ∙ filled.size;
    border = λ place inside.
        get_or-set_other cells (first * 257 + other) (place * 257 + length before) value 0
        (λ same. not-suc-le-zero {n = 0} (omega (arith, (same_cell place (length before) first other fewer (omega (arith, within_too, fewer)) same).1, within_too)))
        ∙ filled.border place inside;
    later = λ place number inside inside_too from. elim (cases_eq (place * 257 + number) (first * 257 + other)) [
      | inl same ↦
          let here = same_cell place number first other (omega (arith, inside_too, fewer)) (omega (arith, within_too, fewer)) same in
          rw (here.0, here.1) value_here
      | inr apart ↦
          subst (λ (n : ℕ). IsLength (drop place now) (drop number before) n)
          (sym (get_or-set_other cells (first * 257 + other) (place * 257 + number) value 0 apart))
          (filled.later place number inside inside_too (beyond (place * 257 + number) from apart))
    ];
  } where
    beyond : (place : ℕ) → first * 257 + other ≤ place → (place ≡ first * 257 + other → ⊥) → first * 257 + (other + 1) ≤ place
    beyond place from apart = omega (arith, from, apart)

    value_here : IsLength (drop first now) (drop other before) (get_or (set cells (first * 257 + other) value) (first * 257 + other) 0)
    value_here =
        let is_value = get_or-set_same cells (first * 257 + other) value 0 (omega (arith, filled.size, within, within_too, few, fewer)) in
        let xs = left_from now first x within x_is in
        let ys = left_from before other y within_too y_is in
        rw (is_value, xs, ys) (next_length x y (drop (first + 1) now) (drop (other + 1) before) is_one _ _ _ value one
        (filled.later (first + 1) (other + 1) (omega (arith, within)) (omega (arith, within_too)) (omega arith))
        (rw ys at (filled.later (first + 1) other (omega (arith, within)) (omega (arith, within_too)) (omega (arith, within_too, fewer))))
        (rw xs at (filled.later first (other + 1) (omega (arith, within)) (omega (arith, within_too)) (omega arith)))
        next)

-- A cell that is read.
pub cell_read : (cells : List ℕ) (place number value : ℕ) → value ≡ get_or cells number value → number ≡ place → number < length cells
    → value ≡ get_or cells place 0
cell_read cells place number value is here within = get_or_read cells number value within is 0 ∙ ap (λ (n : ℕ). get_or cells n 0) here

-- A length of what is left of the lists without their first elements is no largest number.
pub small_cell : (now before : Digests) (cells : List ℕ) (from first other : ℕ) → IsFilled now before from cells → length now ≤ 256
    → first < length now → other < length before → from ≤ (first + 1) * 257 + (other + 1)
    → get_or cells ((first + 1) * 257 + (other + 1)) 0 < 256
small_cell now before cells from first other filled few within within_too reached =
    omega (
      arith,
      few,
      within,
      length-drop (first + 1) now,
      few_lengths (drop (first + 1) now) (drop (other + 1) before) (get_or cells ((first + 1) * 257 + (other + 1)) 0)
          (filled.later (first + 1) (other + 1) (omega (arith, within)) (omega (arith, within_too)) reached),
    )

-- ---- marks

pub mark_more : (marks : List Bool) (xs : Digests) (x : Option Digest) → length marks < length xs → x ≡ get_or xs (length marks) None
    → marked (marks ++ true ∷ []) xs ≡ marked marks xs ++ x ∷ []
mark_more [] [] x within is = absurd (not-suc-le-zero within)
mark_more [] (y ∷ xs) x within is = ap (λ (d : Option Digest). d ∷ []) (sym is)
mark_more (mark ∷ marks) [] x within is = absurd (not-suc-le-zero within)
mark_more (true ∷ marks) (y ∷ xs) x within is =
    ap (λ (l : Digests). y ∷ l) (mark_more marks xs x (omega (arith, within)) is)
mark_more (false ∷ marks) (y ∷ xs) x within is = mark_more marks xs x (omega (arith, within)) is

pub pass_more : (marks : List Bool) (xs : Digests) → marked (marks ++ false ∷ []) xs ≡ marked marks xs
pass_more [] [] = refl
pass_more [] (x ∷ xs) = refl
pass_more (mark ∷ marks) [] = refl
pass_more (true ∷ marks) (x ∷ xs) = ap (λ (l : Digests). x ∷ l) (pass_more marks xs)
pass_more (false ∷ marks) (x ∷ xs) = pass_more marks xs

none_left : (now before : Digests) (cells : List ℕ) (marks others : List Bool) → IsFilled now before 0 cells → length marks ≤ length now
    → length others ≤ length before → (length now ≤ length marks) ⊎ (length before ≤ length others)
    → get_or cells (length marks * 257 + length others) 0 ≡ 0
none_left now before cells marks others filled within within_too (inl all) =
    subst (λ (xs : Digests). IsLength xs (drop (length others) before) (get_or cells (length marks * 257 + length others) 0))
    (drop_all (length marks) now all) (filled.later (length marks) (length others) within within_too (omega arith))
none_left now before cells marks others filled within within_too (inr all) =
    zero_right (drop (length marks) now) (get_or cells (length marks * 257 + length others) 0)
    (subst (λ (ys : Digests). IsLength (drop (length marks) now) ys (get_or cells (length marks * 257 + length others) 0))
    (drop_all (length others) before all) (filled.later (length marks) (length others) within within_too (omega arith)))

-- Where nothing is left of one of the lists, the marks are those of a longest common subsequence.
pub all_marked : (now before : Digests) (cells : List ℕ) (marks others : List Bool) → IsFilled now before 0 cells → length marks ≤ length now
    → length others ≤ length before → (length now ≤ length marks) ⊎ (length before ≤ length others) → IsCommon now before marks others
    → length (marked marks now) + get_or cells (length marks * 257 + length others) 0 ≡ get_or cells 0 0
    → IsLongestCommon now before marks others
all_marked now before cells marks others filled within within_too end common so_long = record {
  common = common;
  longest = λ some rest is.
      omega (
        arith,
        so_long,
        none_left now before cells marks others filled within within_too end,
        most now before (get_or cells 0 0) (filled.later 0 0 (omega arith) (omega arith) (omega arith)) some rest is.same is.known,
      );
}

module _ (now before : Digests) (cells : List ℕ) (marks others : List Bool) (x y : Option Digest) (filled : IsFilled now before 0 cells)
    (within : length marks < length now) (within_too : length others < length before)
    (x_is : x ≡ get_or now (length marks) None) (y_is : y ≡ get_or before (length others) None) where
  abbrev cell : ℕ → ℕ → ℕ
  cell first other = get_or cells (first * 257 + other) 0

  abbrev xs : Digests
  xs = drop (length marks + 1) now

  abbrev ys : Digests
  ys = drop (length others + 1) before

  here : IsLength (x ∷ xs) (y ∷ ys) (cell (length marks) (length others))
  here =
      rw (left_from now (length marks) x within x_is, left_from before (length others) y within_too y_is)
      at (filled.later (length marks) (length others) (omega (arith, within)) (omega (arith, within_too)) (omega arith))

  both : IsLength xs ys (cell (length marks + 1) (length others + 1))
  both = filled.later (length marks + 1) (length others + 1) (omega (arith, within)) (omega (arith, within_too)) (omega arith)

  without_x : IsLength xs (y ∷ ys) (cell (length marks + 1) (length others))
  without_x =
      rw (left_from before (length others) y within_too y_is)
      at (filled.later (length marks + 1) (length others) (omega (arith, within)) (omega (arith, within_too)) (omega arith))

  without_y : IsLength (x ∷ xs) ys (cell (length marks) (length others + 1))
  without_y =
      rw (left_from now (length marks) x within x_is)
      at (filled.later (length marks) (length others + 1) (omega (arith, within)) (omega (arith, within_too)) (omega arith))

  one_more : AreOne x y → cell (length marks) (length others) ≡ cell (length marks + 1) (length others + 1) + 1
  one_more one = one_length (x ∷ xs) (y ∷ ys) _ _ here (inl (one, (cell (length marks + 1) (length others + 1), refl, both)))

  without_first_more : (AreOne x y → ⊥) → cell (length marks) (length others + 1) ≤ cell (length marks + 1) (length others)
      → cell (length marks) (length others) ≡ cell (length marks + 1) (length others)
  without_first_more not_one less =
      one_length (x ∷ xs) (y ∷ ys) _ _ here (inr (
        not_one,
        (
          _,
          _,
          without_x,
          without_y,
          record {
            first_is_less = omega arith;
            other_is_less = less;
            one_is = inl refl;
          },
        ),
      ))

  without_other_more : (AreOne x y → ⊥) → cell (length marks + 1) (length others) ≤ cell (length marks) (length others + 1)
      → cell (length marks) (length others) ≡ cell (length marks) (length others + 1)
  without_other_more not_one less =
      one_length (x ∷ xs) (y ∷ ys) _ _ here (inr (
        not_one,
        (
          _,
          _,
          without_x,
          without_y,
          record {
            first_is_less = less;
            other_is_less = omega arith;
            one_is = inr refl;
          },
        ),
      ))

  pub first_long : (AreOne x y → ⊥) → cell (length marks) (length others + 1) ≤ cell (length marks + 1) (length others)
      → length (marked marks now) + cell (length marks) (length others) ≡ get_or cells 0 0
      → length (marked (marks ++ false ∷ []) now) + cell (length (marks ++ false ∷ [])) (length others) ≡ get_or cells 0 0
  first_long not_one less so_long =
      let m : length (marks ++ false ∷ []) ≡ length marks + 1 = length-append marks (false ∷ []) in
      rw m (omega (arith, so_long, without_first_more not_one less, ap (λ (l : Digests). length l) (pass_more marks now)))

  pub other_long : (AreOne x y → ⊥) → cell (length marks + 1) (length others) ≤ cell (length marks) (length others + 1)
      → length (marked marks now) + cell (length marks) (length others) ≡ get_or cells 0 0
      → length (marked marks now) + cell (length marks) (length (others ++ false ∷ [])) ≡ get_or cells 0 0
  other_long not_one less so_long =
      let m : length (others ++ false ∷ []) ≡ length others + 1 = length-append others (false ∷ []) in
      rw m (omega (arith, so_long, without_other_more not_one less))

  pub both_common : AreOne x y → IsCommon now before marks others → IsCommon now before (marks ++ true ∷ []) (others ++ true ∷ [])
  both_common one common = record {
    same = mark_more marks now x within x_is ∙ ap (λ (l : Digests). l ++ x ∷ []) common.same
        ∙ ap (λ (d : Option Digest). marked others before ++ d ∷ []) one.0 ∙ sym (mark_more others before y within_too y_is);
    known = subst (λ (l : Digests). AllByRecursion IsKnown l) (sym (mark_more marks now x within x_is))
        (added_last IsKnown (marked marks now) x common.known one.1);
  }

  pub both_long : AreOne x y → length (marked marks now) + cell (length marks) (length others) ≡ get_or cells 0 0
      → length (marked (marks ++ true ∷ []) now) + cell (length (marks ++ true ∷ [])) (length (others ++ true ∷ [])) ≡ get_or cells 0 0
  both_long one so_long =
      let m : length (marks ++ true ∷ []) ≡ length marks + 1 = length-append marks (true ∷ []) in
      let n : length (others ++ true ∷ []) ≡ length others + 1 = length-append others (true ∷ []) in
      rw (m, n) (omega (
        arith,
        so_long,
        one_more one,
        ap (λ (l : Digests). length l) (mark_more marks now x within x_is),
        length-append (marked marks now) (x ∷ []),
      ))

module _ (now before : Digests) (marks others : List Bool) (common : IsCommon now before marks others) where
  pub first_passed : IsCommon now before (marks ++ false ∷ []) others
  first_passed = record {
    same = pass_more marks now ∙ common.same;
    known = subst (λ (l : Digests). AllByRecursion IsKnown l) (sym (pass_more marks now)) common.known;
  }

  pub other_passed : IsCommon now before marks (others ++ false ∷ [])
  other_passed = record { same = common.same ∙ sym (pass_more others before); known = common.known }

-- ---- the digests that are compared

module _ (alg : Alg) (place : ℕ) where
  abbrev pub digests_of : List LogEvent → Digests
  digests_of events = map (λ (event : LogEvent). digest_for event.digests alg) events

  pub passed_digest : (given : List LogEvent) (event : LogEvent) → length given < place
      → drop place (digests_of given) ≡ drop place (digests_of (given ++ event ∷ []))
  passed_digest given event before =
      drop_all place (digests_of given) (omega (arith, length-map given (λ (event : LogEvent). digest_for event.digests alg), before))
      ∙ sym (drop_all place (digests_of (given ++ event ∷ []))
      (omega (
        arith,
        length-map (given ++ event ∷ []) (λ (event : LogEvent). digest_for event.digests alg),
        length-append given (event ∷ []),
        before,
      )))

  joined : (given more : List LogEvent) → place ≤ length given
      → drop place (digests_of (given ++ more)) ≡ drop place (digests_of given) ++ digests_of more
  joined given more within =
      ap (λ (l : Digests). drop place l) (map-append (λ (event : LogEvent). digest_for event.digests alg) given more)
      ∙ drop-append-le place (digests_of given) (digests_of more)
      (omega (arith, length-map given (λ (event : LogEvent). digest_for event.digests alg), within))

  pub next_digest : (given : List LogEvent) (event : LogEvent) (digests : Digests) (digest : Option Digest) → place ≤ length given
      → digests ≡ drop place (digests_of given) → digest ≡ digest_for event.digests alg
      → digests ++ digest ∷ [] ≡ drop place (digests_of (given ++ event ∷ []))
  next_digest given event digests digest within are is =
      ap (λ (l : Digests). l ++ digest ∷ []) are ∙ ap (λ (d : Option Digest). drop place (digests_of given) ++ d ∷ []) is
      ∙ sym (joined given (event ∷ []) within)

  module _ (register : ℕ) (events given : List LogEvent) where
    pub first_compared : (more : List LogEvent) (digests : Digests) → extended_events register events ≡ given ++ more → place ≤ length given
        → digests ≡ drop place (digests_of given) → length digests ≡ 256 → digests ≡ compared alg register place events
    first_compared more digests all within are size =
        sym (ap (λ (es : List LogEvent). take 256 (drop place (digests_of es))) all
        ∙ ap (λ (l : Digests). take 256 l) (joined given more within)
        ∙ ap (λ (l : Digests). take 256 (l ++ digests_of more)) (sym are)
        ∙ take_at digests (digests_of more) 256 size)

    pub all_compared : (digests : Digests) → extended_events register events ≡ given → digests ≡ drop place (digests_of given)
        → length digests ≤ 256 → digests ≡ compared alg register place events
    all_compared digests all are few =
        sym (ap (λ (es : List LogEvent). take 256 (drop place (digests_of es))) all ∙ ap (λ (l : Digests). take 256 l) (sym are)
        ∙ take_all 256 digests few)
