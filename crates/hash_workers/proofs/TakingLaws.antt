-- Numbers that are handed out once each, by worker and index.
use Rattle.std.proofs.Common.{◌≡◌, ℕ, zero, suc, ◌+◌, ◌<◌, ◌≤◌, ◌≢◌, List, [], ◌∷◌, Some, refl, sym, ap, ◌∙◌, arith}
use Rattle.std.specs.Prelude.{slice_get}
use Rattle.std.specs.List.{concat}
use Rattle.std.proofs.lemmas.Bool.Decides.{nat_tests}
use Rattle.std.proofs.lemmas.Option.{same_Some, none-some}
use mathlib.Core.Logic.{dite}
use native.Mathlib.Decide.{dec_le, ℕ_discrete}
use Rattle.hash_workers.specs.Names.{HandsOutEach, IsTaken, Took, times}
use Rattle.hash_workers.proofs.ClaimSums.{hit, times-append}
use Rattle.hash_workers.proofs.ListLaws.{at_list, equal_of, list_at}

-- Each job below the count was taken by one worker at one index, and no other job was taken.
pub record TakeEach (count : ℕ) (takings : List (List ℕ)) : Type 0 where
  pub below : (worker index job : ℕ) → Took takings worker index job → job < count
  pub each : (job : ℕ) → job < count → IsTaken takings job
  pub once : (worker other index at job : ℕ) → Took takings worker index job → Took takings other at job
      → (worker ≡ other) × (index ≡ at)

-- ---- one list

hit_same : (number other : ℕ) → number ≡ other → hit number other ≡ 1
hit_same number other same = grind (arith, nat_tests)

hit_other : (number other : ℕ) → number ≢ other → hit number other ≡ 0
hit_other number other apart = grind (arith, nat_tests)

stands : (draws : List ℕ) (index job : ℕ) → slice_get draws index ≡ Some job → 1 ≤ times job draws
stands [] index job has = absurd (none-some job has)
stands (number ∷ draws) zero job has = let here = hit_same job number (sym (same_Some number job has)) in omega arith
stands (number ∷ draws) (suc index) job has = let rest = stands draws index job has in omega arith

stands_twice : (draws : List ℕ) (first second job : ℕ) → first < second → slice_get draws first ≡ Some job
    → slice_get draws second ≡ Some job → 2 ≤ times job draws
stands_twice [] first second job order has also = absurd (none-some job has)
stands_twice (number ∷ draws) zero zero job order has also = absurd (omega arith)
stands_twice (number ∷ draws) zero (suc second) job order has also =
    let here = hit_same job number (sym (same_Some number job has)) in let rest = stands draws second job also in omega arith
stands_twice (number ∷ draws) (suc first) zero job order has also = absurd (omega arith)
stands_twice (number ∷ draws) (suc first) (suc second) job order has also =
    let rest = stands_twice draws first second job (omega arith) has also in omega arith

found : (draws : List ℕ) (job : ℕ) → 1 ≤ times job draws → (index : ℕ) × (slice_get draws index ≡ Some job)
found [] job some_times = absurd (omega arith)
found (number ∷ draws) job some_times = dite (ℕ_discrete job number)
    (λ same. (0, ap (λ (n : ℕ). Some n) (sym same)))
    (λ apart. let none = hit_other job number apart in let rest = found draws job (omega arith) in (suc rest.0, rest.1))

-- ---- lists of workers

here : (takings : List (List ℕ)) (worker : ℕ) (taken : List ℕ) (job : ℕ) → slice_get takings worker ≡ Some taken
    → times job taken ≤ times job (concat takings)
here [] worker taken job has = absurd (none-some taken has)
here (one ∷ takings) zero taken job has =
    let same = ap (times job) (same_Some one taken has) in let joined = times-append job one (concat takings) in omega arith
here (one ∷ takings) (suc worker) taken job has =
    let rest = here takings worker taken job has in let joined = times-append job one (concat takings) in omega arith

in_two : (takings : List (List ℕ)) (worker other : ℕ) (taken also : List ℕ) (job : ℕ) → worker < other
    → slice_get takings worker ≡ Some taken → slice_get takings other ≡ Some also
    → times job taken + times job also ≤ times job (concat takings)
in_two [] worker other taken also job order has has_too = absurd (none-some taken has)
in_two (one ∷ takings) zero zero taken also job order has has_too = absurd (omega arith)
in_two (one ∷ takings) zero (suc other) taken also job order has has_too =
    let same = ap (times job) (same_Some one taken has) in let rest = here takings other also job has_too in
    let joined = times-append job one (concat takings) in omega arith
in_two (one ∷ takings) (suc worker) zero taken also job order has has_too = absurd (omega arith)
in_two (one ∷ takings) (suc worker) (suc other) taken also job order has has_too =
    let rest = in_two takings worker other taken also job (omega arith) has has_too in
    let joined = times-append job one (concat takings) in omega arith

took_some : (takings : List (List ℕ)) (worker index job : ℕ) → Took takings worker index job → 1 ≤ times job (concat takings)
took_some takings worker index job took =
    let taken = list_at takings worker index job took in
    let in_list = stands taken.0 index job taken.2 in
    let in_all = here takings worker taken.0 job taken.1 in omega arith

pub drawn_by : (takings : List (List ℕ)) (job : ℕ) → 1 ≤ times job (concat takings) → IsTaken takings job
drawn_by [] job some_times = absurd (omega arith)
drawn_by (one ∷ takings) job some_times =
    let joined = times-append job one (concat takings) in
    dite (dec_le 1 (times job one))
    (λ in_one. let at = found one job in_one in
    record { worker = 0; index = at.0; took = at_list (one ∷ takings) 0 at.0 one job refl at.1 })
    (λ none. let rest = drawn_by takings job (omega arith) in
    let taken = list_at takings rest.worker rest.index job rest.took in
    record {
      worker = suc rest.worker;
      index = rest.index;
      took = at_list (one ∷ takings) (suc rest.worker) rest.index taken.0 job taken.1 taken.2;
    })

module _ (count : ℕ) (takings : List (List ℕ)) (hands : HandsOutEach count (concat takings)) where
  at_most_once : (job : ℕ) → times job (concat takings) ≤ 1
  at_most_once job = dite (dec_le count job)
      (λ past. let none = hands.others job past in omega arith)
      (λ below. let within : job < count = omega arith in let one = hands.once job within in omega arith)

  one_worker : (worker other index at job : ℕ) → worker < other → Took takings worker index job → Took takings other at job → ⊥
  one_worker worker other index at job order took also =
      let taken = list_at takings worker index job took in
      let others = list_at takings other at job also in
      let first = stands taken.0 index job taken.2 in
      let second = stands others.0 at job others.2 in
      let both = in_two takings worker other taken.0 others.0 job order taken.1 others.1 in
      let one = at_most_once job in omega arith

  one_index : (worker index at job : ℕ) → index < at → Took takings worker index job → Took takings worker at job → ⊥
  one_index worker index at job order took also =
      let taken = list_at takings worker index job took in
      let again = list_at takings worker at job also in
      let same : again.0 ≡ taken.0 = same_Some again.0 taken.0 (sym again.1 ∙ taken.1) in
      let twice = stands_twice taken.0 index at job order taken.2 (rw same at again.2) in
      let in_all = here takings worker taken.0 job taken.1 in
      let one = at_most_once job in omega arith

  once_taken : (worker other index at job : ℕ) → Took takings worker index job → Took takings other at job
      → (worker ≡ other) × (index ≡ at)
  once_taken worker other index at job took also =
      let same = equal_of worker other (λ less. one_worker worker other index at job less took also)
      (λ more. one_worker other worker at index job more also took) in
      let again = rw (← same) at also in
      (same, equal_of index at (λ less. one_index worker index at job less took again) (λ more. one_index worker at index job more again took))

  pub take_each : TakeEach count takings
  take_each = record {
    below = λ worker index job took. dite (dec_le count job)
        (λ past. let none = hands.others job past in let some_times = took_some takings worker index job took in absurd (omega arith))
        (λ not_past. omega arith);
    each = λ job below. let one = hands.once job below in drawn_by takings job (omega arith);
    once = once_taken;
  }
