-- A function finds what a relation allows: the laws that readers' clauses follow from.
use Rattle.std.proofs.Common.{◌≡◌, Option, Some, None, Result, Ok, Err, List, ℕ, refl, sym, ap, ◌∙◌, subst, Bor, option_and_then, inl, inr, ◌⊎◌}
use Rattle.std.specs.Prelude.{IfSome, IfNone, option_map}
use Rattle.std.specs.Option.{option_or}
use Rattle.std.specs.Result.{result_ok}

-- What is found is allowed, and what is allowed is found.
pub record Finds {X : Type 0} (Is : X → Type 0) (found : Option X) : Type 0 where
  pub is : (x : X) → found ≡ Some x → Is x
  pub only : (x : X) → Is x → found ≡ Some x

pub some_is : {X : Type 0} (x y : X) → Some x ≡ Some y → x ≡ y
some_is x y e = cc

pub ok_some : {X E : Type 0} (r : Result X E) (x : X) → result_ok r ≡ Some x → r ≡ Ok x
ok_some (Ok y) x e = cc
ok_some (Err fault) x e = absurd cc

pub whole_finds : {X E : Type 0} {Is : X → Type 0} (r : Result X E) → ((x : X) → r ≡ Ok x → Is x) → ((x : X) → Is x → r ≡ Ok x)
    → Finds Is (result_ok r)
whole_finds r takes again = record {
  is = λ x e. takes x (ok_some r x e);
  only = λ x is. ap result_ok (again x is);
}

-- Nothing is allowed where nothing is found.
pub none_is : {X : Type 0} {Is : X → Type 0} {found : Option X} → Finds Is found → found ≡ None → (x : X) → Is x → ⊥
none_is f none x is = let some = f.only x is in absurd cc

-- A result that is allowed, and is none only where nothing is, is what is found.
pub same_finds : (result : Option (Bor (List ℕ))) (Is : List ℕ → Type 0) (found : Option (List ℕ)) → Finds Is found
    → IfSome result (λ x. Is x.now) → IfNone result ((x : List ℕ) → Is x → ⊥) → option_map (λ x. x.now) result ≡ found
same_finds (Some x) Is found f some none = sym (f.only x.now some)
same_finds None Is None f some none = refl
same_finds None Is (Some y) f some none = absurd (none y (f.is y refl))

-- ---- finding by steps

pub alike_finds : {X : Type 0} {P Q : X → Type 0} {found : Option X} → ((x : X) → P x → Q x) → ((x : X) → Q x → P x)
    → Finds P found → Finds Q found
alike_finds to back f = record { is = λ x e. to x (f.is x e); only = λ x is. f.only x (back x is) }

then_is : {A B : Type 0} {P : A → Type 0} {Q : A → B → Type 0} {next : A → Option B} (found : Option A) → Finds P found
    → ((a : A) → Finds (Q a) (next a)) → (b : B) → option_and_then next found ≡ Some b → (a : A) × P a × Q a b
then_is (Some a) f g b e = (a, f.is a refl, (g a).is b e)
then_is None f g b e = absurd cc

pub then_finds : {A B : Type 0} {P : A → Type 0} {Q : A → B → Type 0} {next : A → Option B} {found : Option A} → Finds P found
    → ((a : A) → Finds (Q a) (next a)) → Finds (λ b. (a : A) × P a × Q a b) (option_and_then next found)
then_finds {A} {B} {P} {Q} {next} {found} f g = record {
  is = then_is found f g;
  only = λ b is. ap (option_and_then next) (f.only is.0 is.1) ∙ (g is.0).only b is.2;
}

pub mapped_is : {X Y : Type 0} {Is : X → Type 0} (to : X → Y) (P : Y → Type 0) → ((x : X) → Is x → P (to x)) → (found : Option X)
    → Finds Is found → (y : Y) → option_map to found ≡ Some y → P y
mapped_is to P give (Some x) f y e = subst P (some_is (to x) y e) (give x (f.is x refl))
mapped_is to P give None f y e = absurd cc

pub or_some : {X : Type 0} (a b : Option X) (x : X) → option_or a b ≡ Some x → (a ≡ Some x) ⊎ ((a ≡ None) × (b ≡ Some x))
or_some (Some y) b x e = inl e
or_some None b x e = inr (refl, e)

pub or_only : {X : Type 0} (a b : Option X) (x : X) → ((y : X) → a ≡ Some y → y ≡ x) → (a ≡ Some x) ⊎ (b ≡ Some x)
    → option_or a b ≡ Some x
or_only (Some y) b x same there = ap Some (same y refl)
or_only None b x same (inl e) = absurd cc
or_only None b x same (inr e) = e

-- What a reader gives is allowed where it is what is found.
pub view_is : {A X : Type 0} {Is : X → Type 0} {found : Option X} (view : A → X) (result : Option A) → Finds Is found
    → option_map view result ≡ found → IfSome result (λ x. Is (view x))
view_is view (Some x) f e = f.is (view x) (sym e)
view_is view None f e = tt
