-- Two numbers; elements of lists, of mapped lists, and of lists of lists.
use Rattle.std.proofs.Common.{◌≡◌, ℕ, zero, suc, ◌+◌, ◌<◌, List, [], ◌∷◌, ◌++◌, length, length-append, map, Option, Some, None, refl, ap, inl, inr, arith}
use Rattle.std.specs.Prelude.{◌⊎◌, slice_get, option_and_then}
use Rattle.std.proofs.lemmas.Bool.{cases_lt}
use Rattle.std.proofs.lemmas.Grind.{common_steps}
use Rattle.std.proofs.lemmas.Option.{gets, same_Some, none-some, slice_get_cases}
use Rattle.hash_workers.specs.Names.{got_at}

-- Two numbers are equal if neither is below the other.
pub equal_of : (m n : ℕ) → (m < n → ⊥) → (n < m → ⊥) → m ≡ n
equal_of m n not_less not_more = elim (cases_lt m n) [
  | inl less ↦ absurd (not_less less)
  | inr more ↦ elim (cases_lt n m) [ inl less ↦ absurd (not_more less) | inr past ↦ omega arith ]
]

-- ---- one list

-- An element of a list with one appended was there before, or is the appended one.
pub slice_get_snoc : {X : Type 0} → (xs : List X) (x y : X) (i : ℕ) → slice_get (xs ++ x ∷ []) i ≡ Some y
    → (slice_get xs i ≡ Some y) ⊎ ((i ≡ length xs) × (y ≡ x))
slice_get_snoc xs x y i has = grind (arith, common_steps, gets)

-- An element of a list stays at its index when one is appended at the end.
pub at_longer : {X : Type 0} → (xs : List X) (x : X) (i : ℕ) (y : X) → slice_get xs i ≡ Some y → slice_get (xs ++ x ∷ []) i ≡ Some y
at_longer xs x i y has = grind (arith, common_steps, gets)

-- An element of two lists joined is in one of them.
pub in_either : {X : Type 0} → (xs ys : List X) (i : ℕ) (x : X) → slice_get (xs ++ ys) i ≡ Some x
    → (slice_get xs i ≡ Some x) ⊎ ((at : ℕ) × (slice_get ys at ≡ Some x))
in_either [] ys i x has = inr (i, has)
in_either (z ∷ xs) ys zero x has = inl has
in_either (z ∷ xs) ys (suc i) x has = in_either xs ys i x has

pub at_last : {X : Type 0} → (xs : List X) (x : X) → slice_get (xs ++ x ∷ []) (length xs) ≡ Some x
at_last xs x = grind (arith, common_steps, gets)

pub length_snoc : {X : Type 0} → (xs : List X) (x : X) → length (xs ++ x ∷ []) ≡ length xs + 1
length_snoc xs x = length-append xs (x ∷ [])

pub within_at : {X : Type 0} → (xs : List X) (i : ℕ) → i < length xs → (x : X) × (slice_get xs i ≡ Some x)
within_at xs i within = elim ((slice_get_cases xs i).1) [
  | inl here ↦ (here.0, here.2)
  | inr past ↦ let le = past.0 in absurd (omega arith)
]

-- ---- a mapped list

pub map_at : {A B : Type 0} → (f : A → B) (xs : List A) (i : ℕ) (y : B) → slice_get (map f xs) i ≡ Some y
    → (x : A) × (slice_get xs i ≡ Some x) × (f x ≡ y)
map_at f [] i y has = absurd (none-some y has)
map_at f (x ∷ xs) zero y has = (x, refl, same_Some (f x) y has)
map_at f (x ∷ xs) (suc i) y has = map_at f xs i y has

pub at_map : {A B : Type 0} → (f : A → B) (xs : List A) (i : ℕ) (x : A) → slice_get xs i ≡ Some x → slice_get (map f xs) i ≡ Some (f x)
at_map f [] i x has = absurd (none-some x has)
at_map f (y ∷ xs) zero x has = ap (λ z. Some (f z)) (same_Some y x has)
at_map f (y ∷ xs) (suc i) x has = at_map f xs i x has

-- ---- a list of lists

one_at : {X : Type 0} → (o : Option (List X)) (i : ℕ) (x : X) → option_and_then (λ xs. slice_get xs i) o ≡ Some x
    → (one : List X) × (o ≡ Some one) × (slice_get one i ≡ Some x)
one_at None i x has = absurd (none-some x has)
one_at (Some one) i x has = (one, refl, has)

pub list_at : {X : Type 0} → (lists : List (List X)) (worker i : ℕ) (x : X) → got_at lists worker i ≡ Some x
    → (one : List X) × (slice_get lists worker ≡ Some one) × (slice_get one i ≡ Some x)
list_at lists worker i x has = one_at (slice_get lists worker) i x has

pub at_list : {X : Type 0} → (lists : List (List X)) (worker i : ℕ) (one : List X) (x : X) → slice_get lists worker ≡ Some one
    → slice_get one i ≡ Some x
    → got_at lists worker i ≡ Some x
at_list lists worker i one x here has = rw here has

-- An element of a list that is part of another element.
pub in_mapped : {A X : Type 0} → (f : A → List X) (xs : List A) (worker i : ℕ) (x : X) → got_at (map f xs) worker i ≡ Some x
    → (a : A) × (slice_get xs worker ≡ Some a) × (slice_get (f a) i ≡ Some x)
in_mapped f xs worker i x has =
    let one = list_at (map f xs) worker i x has in
    let from = map_at f xs worker one.0 one.1 in
    (from.0, from.1, rw from.2 one.2)
