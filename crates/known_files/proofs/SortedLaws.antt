-- What a search in a sorted list of byte strings finds.
use Rattle.std.proofs.Common.{◌≡◌, ℕ, zero, suc, ◌<◌, Bool, true, List, [], ◌∷◌, length, get_or, Result, Ok, Err, sym, ap, ◌∙◌, arith, inl, inr}
use Rattle.std.specs.Prelude.{bytes_eq, nat_lt}
use Rattle.std.specs.List.{list_any}
use Rattle.std.specs.List.Sorted.{IsBinarySearchResult, IsSearchInRange, IsSorted}
use Rattle.std.specs.Cmp.Lexicographic.{slice_cmp}
use Rattle.std.specs.Ordering.{nat_cmp}
use Rattle.std.specs.declared.cmp.Ordering.TheVariants.{Equal}
use Rattle.std.specs.Result.{is_ok}
use Rattle.std.proofs.lemmas.Bool.{cases_Bool, ltb-true, ltb-false, false_from_ne_true, or_left, or_right}
use Rattle.std.proofs.lemmas.Cmp.{nat_list_cmp_total, tied_itself}
use Rattle.std.proofs.lemmas.List.Sorted.{searchable_from_sorted}
use Rattle.std.proofs.lemmas.Map.Lookups.{exact_bytes}
use Rattle.std.proofs.lemmas.Map.Views.{Contains-from_any}
use Rattle.std.proofs.lemmas.Slice.Eq.{bytes_eq-Decides}

any_here : (p : List ℕ → Bool) (xs : List (List ℕ)) (k : ℕ) → k < length xs → p (get_or xs k []) ≡ true → list_any p xs ≡ true
any_here p [] k within passes = absurd (omega (arith, within))
any_here p (x ∷ xs) zero within passes = or_left (p x) (list_any p xs) passes
any_here p (x ∷ xs) (suc k) within passes = or_right (p x) (list_any p xs) (any_here p xs k (omega (arith, within)) passes)

pub found_sorted : (xs : List (List ℕ)) (x : List ℕ) (r : Result ℕ ℕ) → IsSorted (slice_cmp nat_cmp) xs
    → IsBinarySearchResult (λ y. slice_cmp nat_cmp y x) xs r → IsSearchInRange r (length xs) → is_ok r ≡ list_any (bytes_eq x) xs
found_sorted xs x (Ok i) sorted result within =
    sym (any_here (bytes_eq x) xs i within ((bytes_eq-Decides x (get_or xs i [])).1 (sym (exact_bytes (get_or xs i []) x (result [])))))
found_sorted xs x (Err i) sorted result within =
    let parts = result (searchable_from_sorted nat_list_cmp_total (λ y. y) xs x sorted) in
    sym (false_from_ne_true (list_any (bytes_eq x) xs) (λ any.
    let at = Contains-from_any (λ a b e. (bytes_eq-Decides a b).0 e) x xs any in
    let equal : slice_cmp nat_cmp (get_or xs at.0 x) x ≡ Equal = ap (λ y. slice_cmp nat_cmp y x) at.2 ∙ tied_itself nat_list_cmp_total x in
    elim (cases_Bool (nat_lt at.0 i)) [
      | inl before ↦ absurd (let less = parts.0 at.0 x (omega arith) (ltb-true at.0 i before) in cc)
      | inr from ↦ absurd (let greater = parts.1 at.0 x (omega (arith, ltb-false at.0 i from)) at.1 in cc)
    ]))
