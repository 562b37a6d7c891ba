-- What is found in a table.
use Rattle.std.proofs.Common.{◌≡◌, ℕ, Bool, true, false, cond, eqb, List, [], ◌∷◌, Option, Some, refl}
use Rattle.std.specs.Prelude.{find}
use Rattle.std.proofs.lemmas.Bool.{eqb-true}

abbrev the_some : {X : Type 0} → X → Option X
the_some x = Some x

same_some : {X : Type 0} (x y : X) → the_some x ≡ the_some y → x ≡ y
same_some x y e = cc

chosen : {X : Type 0} (p : X → Bool) (x : X) (xs : List X) (y : X) (b : Bool) → p x ≡ b → cond b (Some x) (find p xs) ≡ Some y
    → (find p xs ≡ Some y → p y ≡ true) → p y ≡ true
chosen p x xs y true test e later = rw (← same_some x y e) test
chosen p x xs y false test e later = later e

-- What is found passes the test.
pub found_passes : {X : Type 0} (p : X → Bool) (xs : List X) (y : X) → find p xs ≡ Some y → p y ≡ true
found_passes p [] y e = absurd cc
found_passes p (x ∷ xs) y e = chosen p x xs y (p x) refl e (found_passes p xs y)

-- So it has the number that was looked for.
pub found_id : {X : Type 0} (id_of : X → ℕ) (xs : List X) (id : ℕ) (y : X) → find (λ x. eqb (id_of x) id) xs ≡ Some y → id_of y ≡ id
found_id id_of xs id y e = eqb-true (id_of y) id (found_passes (λ x. eqb (id_of x) id) xs y e)
