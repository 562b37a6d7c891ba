-- Sums over all views of claims, and how often numbers occur among the draws.
use Rattle.std.proofs.Common.{◌≡◌, ℕ, zero, suc, ◌+◌, ◌-◌, ◌<◌, ◌≤◌, cond, eqb, ltb, List, [], ◌∷◌, ◌++◌, length, get_or, set, map, sym, refl, ap, ◌∙◌, subst, arith}
use Rattle.std.specs.List.{All, concat, range_with_len}
use Rattle.std.proofs.lemmas.List.FromFn.{length-range_with_len, get_or-range_with_len}
use Rattle.std.proofs.lemmas.Bool.Decides.{nat_tests}
use mathlib.Core.Logic.{dite}
use mathlib.Core.Option.{some, some-injective, some-ne-none}
use native.Mathlib.Decide.{dec_le}
use lib.ListN.{get_elem?}
use Rattle.hash_workers.specs.declared.claims.view.SeatView.{SeatView}
use Rattle.hash_workers.specs.Names.{DrawsMore, HandsOutEach, ended_places_of, places_of, times, total}
use Rattle.hash_workers.specs.parts.ClaimRule.{draws_of}

-- ---- sums

pub total-set : (of : SeatView → ℕ) (views : List SeatView) (seat : ℕ) (old new : SeatView) → get_elem? views seat ≡ some old
    → total of (set views seat new) + of old ≡ total of views + of new
total-set of [] seat old new here = absurd (some-ne-none old (sym here))
total-set of (view ∷ views) zero old new here = let is : of view ≡ of old = ap of (some-injective view old here) in omega arith
total-set of (view ∷ views) (suc seat) old new here = let others = total-set of views seat old new here in omega arith

pub total-push : (of : SeatView → ℕ) (views : List SeatView) (view : SeatView) → total of (views ++ view ∷ []) ≡ total of views + of view
total-push of [] view = omega arith
total-push of (other ∷ views) view = let others = total-push of views view in omega arith

pub total_at : (of : SeatView → ℕ) (views : List SeatView) (seat : ℕ) (view : SeatView) → get_elem? views seat ≡ some view
    → of view ≤ total of views
total_at of [] seat view here = absurd (some-ne-none view (sym here))
total_at of (other ∷ views) zero view here = let is : of other ≡ of view = ap of (some-injective other view here) in omega arith
total_at of (other ∷ views) (suc seat) view here = let others = total_at of views seat view here in omega arith

ended_at : (view : SeatView) → ended_places_of view ≤ places_of view
ended_at view = grind (arith, nat_tests)

pub ended_within : (views : List SeatView) → total ended_places_of views ≤ total places_of views
ended_within [] = omega arith
ended_within (view ∷ views) = let others = ended_within views in let here = ended_at view in omega arith

-- ---- how often a number occurs in a list

-- 1 if the number is below the count, else 0.
abbrev pub once_below : ℕ → ℕ → ℕ
once_below number count = cond (ltb number count) 1 0

abbrev pub hit : ℕ → ℕ → ℕ
hit number other = cond (eqb number other) 1 0

abbrev pub times_of : ℕ → SeatView → ℕ
times_of number view = times number view.draws

pub times-append : (number : ℕ) (first second : List ℕ) → times number (first ++ second) ≡ times number first + times number second
times-append number [] second = omega arith
times-append number (other ∷ others) second = let rest = times-append number others second in omega arith

pub times-concat : (number : ℕ) (views : List SeatView) → times number (concat (map draws_of views)) ≡ total (times_of number) views
times-concat number [] = refl
times-concat number (view ∷ views) =
    let here = times-append number view.draws (concat (map draws_of views)) in let rest = times-concat number views in omega arith

once_is : (number count : ℕ) → number < count → once_below number count ≡ 1
once_is number count below = grind (arith, nat_tests)

once_is_none : (number count : ℕ) → count ≤ number → once_below number count ≡ 0
once_is_none number count past = grind (arith, nat_tests)

pub below_one_more : (number count : ℕ) → once_below number (count + 1) ≡ once_below number count + hit number count
below_one_more number count = grind (arith, nat_tests)

pub is_below : (number count : ℕ) → 1 ≤ once_below number count → number < count
is_below number count once = grind (arith, nat_tests)

hit_itself : (number : ℕ) → hit number number ≡ 1
hit_itself number = grind (arith, nat_tests)

-- `HandsOutEach` as one equation for every number, and back.
pub each_once : (count : ℕ) (draws : List ℕ) → HandsOutEach count draws → (number : ℕ) → times number draws ≡ once_below number count
each_once count draws hands number = dite (dec_le count number)
    (λ past. let is = hands.others number past in let none = once_is_none number count past in omega arith)
    (λ below. let within : number < count = omega arith in let is = hands.once number within in let one = once_is number count within in
    omega arith)

pub hands_out : (count : ℕ) (draws : List ℕ) → ((number : ℕ) → times number draws ≡ once_below number count) → HandsOutEach count draws
hands_out count draws each = record {
  once = λ number below. each number ∙ once_is number count below;
  others = λ number past. each number ∙ once_is_none number count past;
}

-- ---- numbers one after another

-- How often a number occurs among `count` numbers from `first` on.
pub times-range : (number first count : ℕ)
    → times number (range_with_len first count) + once_below number first ≡ once_below number (first + count)
times-range number first zero =
    let same : once_below number (first + 0) ≡ once_below number first = ap (once_below number) (omega arith) in omega arith
times-range number first (suc count) =
    let rest = times-range number (first + 1) count in
    let here = below_one_more number first in
    let same : (first + 1) + count ≡ first + suc count = omega arith in
    let last : once_below number ((first + 1) + count) ≡ once_below number (first + suc count) = ap (once_below number) same in
    omega arith

below_range : (first count : ℕ) (P : ℕ → Type 0) → ((more : ℕ) → more < count → P (first + more)) → All P (range_with_len first count)
below_range first count P each = λ index d within.
    let size = length-range_with_len first count in
    let inside : index < count = omega arith in
    subst P (sym (get_or-range_with_len first count index d inside)) (each index inside)

-- ---- all numbers of a list are below one

times_here : (draws : List ℕ) (index d : ℕ) → index < length draws → 1 ≤ times (get_or draws index d) draws
times_here [] index d within = absurd (omega arith)
times_here (number ∷ draws) zero d within = let here = hit_itself number in omega arith
times_here (number ∷ draws) (suc index) d within = let rest = times_here draws index d (omega arith) in omega arith

pub all_below : (number : ℕ) (draws : List ℕ) → ((drawn : ℕ) → 1 ≤ times drawn draws → drawn < number)
    → All (λ drawn. drawn < number) draws
all_below number draws known = λ index d within. known (get_or draws index d) (times_here draws index d within)

-- A seat that found this number in the word draws the numbers from there on that are below the number of jobs.
pub draws_more : (jobs number : ℕ) (draws now_draws : List ℕ) → now_draws ≡ draws ++ range_with_len number (jobs - number)
    → ((drawn : ℕ) → 1 ≤ times drawn draws → drawn < number) → DrawsMore jobs draws now_draws
draws_more jobs number draws now_draws is above = record {
  rest = range_with_len number (jobs - number);
  draws_are = is;
  below = below_range number (jobs - number) (λ n. n < jobs) (λ more within. omega arith);
  beyond = below_range number (jobs - number) (λ n. All (λ drawn. drawn < n) draws)
      (λ more within. all_below (number + more) draws (λ drawn some_times. let below = above drawn some_times in omega arith));
}
