-- Steps that may fail, and what a reader took from the start of the bytes.
use Rattle.std.proofs.Common.{◌≡◌, ℕ, ◌+◌, Bool, true, false, cond, List, ◌++◌, take, drop, Option, Some, None, Result, Ok, Err, refl, arith, inl, inr}
use Rattle.std.specs.Prelude.{ok_or, IsOk}
use Rattle.std.proofs.lemmas.Bool.{cases_lt}
use Rattle.std.proofs.lemmas.List.{get_or-drop, get_or-take, get_or_past, length-take}
use Rattle.byte_fields.specs.Reading.{◌>>=◌}
pub use Rattle.byte_fields.specs.Spelling.{IsBytes}

pub IsBytes-drop : (n : ℕ) (bytes : List ℕ) → IsBytes bytes → IsBytes (drop n bytes)
IsBytes-drop n bytes h i = rw get_or-drop (h (n + i))

pub IsBytes-take : (n : ℕ) (bytes : List ℕ) → IsBytes bytes → IsBytes (take n bytes)
IsBytes-take n bytes h i =
    elim (cases_lt i n) [
      | inl lt ↦ rw (get_or-take n bytes i 0 lt) (h i)
      | inr le ↦ rw (get_or_past (take n bytes) i 0 (omega (arith, length-take n bytes))) (omega arith)
    ]

abbrev failed : {E : Type 0} (A : Type 0) → E → Result A E
failed A d = Err d

-- Equal failures have the same fault.
pub same_fault : {A E : Type 0} (c d : E) → failed A c ≡ failed A d → c ≡ d
same_fault c d e = cc

-- Where two steps do not fail: the value of the first.
pub bind_ok : {A B E : Type 0} (r : Result A E) (f : A → Result B E) (y : B) → (r >>= f) ≡ Ok y → (x : A) × (r ≡ Ok x) × (f x ≡ Ok y)
bind_ok (Ok x) f y e = (x, refl, e)
bind_ok (Err d) f y e = absurd cc

-- A test that did not fail: failing is its first branch.
pub guard_ok : {A E : Type 0} (b : Bool) (d : E) (r : Result A E) (y : A) → cond b (Err d) r ≡ Ok y → (b ≡ false) × (r ≡ Ok y)
guard_ok true d r y e = absurd cc
guard_ok false d r y e = (refl, e)

-- A test whose second branch fails.
pub test_ok : {A E : Type 0} (b : Bool) (d : E) (r : Result A E) (y : A) → cond b r (Err d) ≡ Ok y → (b ≡ true) × (r ≡ Ok y)
test_ok true d r y e = (refl, e)
test_ok false d r y e = absurd cc

pub ok_or_ok : {A E : Type 0} (o : Option A) (d : E) (x : A) → ok_or o d ≡ Ok x → o ≡ Some x
ok_or_ok (Some y) d x e = cc
ok_or_ok None d x e = absurd cc

abbrev pub the_ok : {A : Type 0} (E : Type 0) → A → Result A E
the_ok E x = Ok x

pub ok_is : {A E : Type 0} (x y : A) → the_ok E x ≡ the_ok E y → x ≡ y
ok_is x y e = cc

pub ok_not_err : {A E : Type 0} (x : A) (fault : E) → the_ok E x ≡ Err fault → ⊥
ok_not_err x fault e = cc

-- The value of a result that is not a fault.
pub is_ok_value : {A E : Type 0} (r : Result A E) → IsOk r → (x : A) × (r ≡ Ok x)
is_ok_value (Ok x) ok = (x, refl)
is_ok_value (Err fault) ok = absurd cc

-- One result has one fault.
pub fault_is : {A E : Type 0} (r : Result A E) (y f g : E) → r ≡ Err y → y ≡ f → r ≡ Err g → f ≡ g
fault_is r y f g a b c = cc

-- What a reader took from the start, and the rest.
pub record Takes (bytes text rest : List ℕ) : Type 0 where
  pub parts : bytes ≡ text ++ rest
  pub rest_fits : IsBytes rest
