-- All algorithms: what holds of each in the list holds of every one.
use Rattle.std.proofs.Common.{rules, ◌≡◌, ℕ, zero, suc, ◌+◌, ◌<◌, add-one, subst, length, take, get_or, arith, ◌&&◌, Bool, true, false, List, [], ◌∷◌, Option, Some, refl, sym, ap, ◌∙◌, inl, inr}
use Rattle.std.specs.Prelude.{bytes_eq, find}
use Rattle.std.specs.List.{list_all, list_any, AllByRecursion}
use Rattle.std.proofs.lemmas.Bool.{and_parts, and_from, or_cases, or_left, or_right, eqb-true, eq-eqb, both_ways, false_from_ne_true, cases_Bool}
use Rattle.pcr_banks.specs.declared.alg.Alg.{Alg}
use Rattle.pcr_banks.specs.declared.alg.Alg.TheVariants.{Sha1, Sha256, Sha384, Sha512}
use Rattle.pcr_banks.specs.Names.{algorithm_with, all_algs, name_of, same_alg, tpm_id_of}

-- What holds of each algorithm in the list holds of every one.
pub every_alg : (P : Alg → Type 0) → AllByRecursion P all_algs → (alg : Alg) → P alg
every_alg P each Sha1 = each.0
every_alg P each Sha256 = each.1.0
every_alg P each Sha384 = each.1.1.0
every_alg P each Sha512 = each.1.1.1.0

-- What holds of every algorithm holds of each in a list.
pub each_of : (P : Alg → Type 0) → ((alg : Alg) → P alg) → (algs : List Alg) → AllByRecursion P algs
each_of P every [] = tt
each_of P every (alg ∷ algs) = (every alg, each_of P every algs)

-- ---- one algorithm

found_by_identifier : (alg : Alg) → algorithm_with (tpm_id_of alg) ≡ Some alg
found_by_identifier = every_alg _ (search rules)

pub same_alg_is : (a b : Alg) → same_alg a b ≡ true → a ≡ b
same_alg_is a b e =
    let ids : tpm_id_of a ≡ tpm_id_of b = eqb-true (tpm_id_of a) (tpm_id_of b) e in
    let found : Some a ≡ Some b = sym (found_by_identifier a) ∙ ap (λ (id : ℕ). algorithm_with id) ids ∙ found_by_identifier b in
    cc

-- The algorithm with a name, where there is one.
abbrev alg_named : List ℕ → List Alg → Option Alg
alg_named name algs = find (λ alg. bytes_eq (name_of alg) name) algs

found_by_name : (alg : Alg) → alg_named (name_of alg) all_algs ≡ Some alg
found_by_name = every_alg _ (search rules)

-- Algorithms with the same name are the same.
pub same_name_is : (a b : Alg) → name_of a ≡ name_of b → a ≡ b
same_name_is a b e =
    let found : Some a ≡ Some b = sym (found_by_name a) ∙ ap (λ (name : List ℕ). alg_named name all_algs) e ∙ found_by_name b in
    cc

pub same_alg_here : (alg : Alg) → same_alg alg alg ≡ true
same_alg_here alg = eq-eqb (tpm_id_of alg) (tpm_id_of alg) refl

-- ---- tests

each_passes : (test : Alg → Bool) (algs : List Alg) → list_all test algs ≡ true → AllByRecursion (λ alg. test alg ≡ true) algs
each_passes test [] e = tt
each_passes test (alg ∷ algs) e = let both = and_parts (test alg) (list_all test algs) e in (both.0, each_passes test algs both.1)

all_pass : (test : Alg → Bool) (algs : List Alg) → AllByRecursion (λ alg. test alg ≡ true) algs → list_all test algs ≡ true
all_pass test [] each = refl
all_pass test (alg ∷ algs) each = and_from (test alg) (list_all test algs) each.0 (all_pass test algs each.1)

-- A test passes for every algorithm where it passes for all in the list.
pub every_passes : (test : Alg → Bool) → list_all test all_algs ≡ true → (alg : Alg) → test alg ≡ true
every_passes test e = every_alg _ (each_passes test all_algs e)

pub list_passes : (test : Alg → Bool) → ((alg : Alg) → test alg ≡ true) → list_all test all_algs ≡ true
list_passes test every = all_pass test all_algs (each_of _ every all_algs)

-- A test passes for some algorithm where it passes for one in a list.
some_of : (test : Alg → Bool) (algs : List Alg) → list_any test algs ≡ true → (alg : Alg) × (test alg ≡ true)
some_of test [] e = absurd cc
some_of test (alg ∷ algs) e =
    elim (or_cases (test alg) (list_any test algs) e) [
      | inl here ↦ (alg, here)
      | inr there ↦ some_of test algs there
    ]

pub some_passes : (test : Alg → Bool) → list_any test all_algs ≡ true → (alg : Alg) × (test alg ≡ true)
some_passes test e = some_of test all_algs e

any_has : (test : Alg → Bool) (alg : Alg) (algs : List Alg) → test alg ≡ true → list_any (same_alg alg) algs ≡ true
    → list_any test algs ≡ true
any_has test alg [] passes e = absurd cc
any_has test alg (first ∷ algs) passes e =
    elim (or_cases (same_alg alg first) (list_any (same_alg alg) algs) e) [
      | inl same ↦ or_left (test first) (list_any test algs) (rw (← same_alg_is alg first same) passes)
      | inr others ↦ or_right (test first) (list_any test algs) (any_has test alg algs passes others)
    ]

pub is_listed : (alg : Alg) → list_any (same_alg alg) all_algs ≡ true
is_listed = every_alg _ (search rules)

pub list_has : (test : Alg → Bool) (alg : Alg) → test alg ≡ true → list_any test all_algs ≡ true
list_has test alg passes = any_has test alg all_algs passes (is_listed alg)

-- A test passes for no algorithm where it passes for none in the list.
pub none_passes : (test : Alg → Bool) → list_any test all_algs ≡ false → (alg : Alg) → test alg ≡ false
none_passes test e alg = false_from_ne_true (test alg) (λ passes. both_ways (list_any test all_algs) e (list_has test alg passes))

pub list_lacks : (test : Alg → Bool) → ((alg : Alg) → test alg ≡ false) → list_any test all_algs ≡ false
list_lacks test none = false_from_ne_true (list_any test all_algs)
    (λ e. let found = some_passes test e in both_ways (test found.0) (none found.0) found.1)

-- Some algorithm in the list is this one and passes a test exactly where this one passes it.
pub one_of_all : (test : Alg → Bool) (a : Alg) → list_any (λ alg. same_alg a alg && test alg) all_algs ≡ test a
one_of_all test a =
    let one = λ (alg : Alg). same_alg a alg && test alg in
    elim (cases_Bool (test a)) [
      | inl passes ↦ list_has one a (and_from (same_alg a a) (test a) (same_alg_here a) passes) ∙ sym passes
      | inr fails ↦ list_lacks one (λ alg. false_from_ne_true (one alg) (λ both.
          let parts = and_parts (same_alg a alg) (test alg) both in
          let passes : test a ≡ true = rw (same_alg_is a alg parts.0) parts.1 in
          both_ways (test a) fails passes)) ∙ sym fails
    ]

-- ---- one algorithm after another

item_more : (P : Alg → Type 0) (algs : List Alg) (index : ℕ) (d : Alg) → index < length algs → AllByRecursion P (take index algs)
    → P (get_or algs index d) → AllByRecursion P (take (suc index) algs)
item_more P [] index d lt before holds = absurd (omega (arith, lt))
item_more P (first ∷ algs) zero d lt before holds = (holds, tt)
item_more P (first ∷ algs) (suc index) d lt before holds = (before.0, item_more P algs index d (omega (arith, lt)) before.1 holds)

pub one_more : (P : Alg → Type 0) (algs : List Alg) (index : ℕ) (d : Alg) → index < length algs → AllByRecursion P (take index algs)
    → P (get_or algs index d) → AllByRecursion P (take (index + 1) algs)
one_more P algs index d lt before holds =
    subst (λ (n : ℕ). AllByRecursion P (take n algs)) (sym (add-one index)) (item_more P algs index d lt before holds)
