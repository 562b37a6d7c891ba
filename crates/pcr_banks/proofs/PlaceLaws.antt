-- One register changed.
use Rattle.std.proofs.Common.{rules, ◌≡◌, ◌≢◌, ℕ, ◌<◌, ◌≤◌, eqb, ltb, cond, Bool, true, false, List, Option, Some, None, length, slice_get, refl, sym, ap, ◌∙◌, inl, inr}
use Rattle.std.specs.Prelude.{option_map}
use Rattle.std.proofs.Math.ListN.{set}
use Rattle.std.proofs.lemmas.Bool.{cases_Bool, eqb-true, eq-eqb, both_ways}
use Rattle.std.proofs.lemmas.Option.{slice_get-get_or, slice_get_past}
use Rattle.std.proofs.lemmas.List.{get_or-set_same, get_or-set_other, length-set}
use Rattle.pcr_banks.specs.declared.alg.Alg.{Alg}
use Rattle.pcr_banks.specs.Names.{ExtendsBank, extended_by, extended_value, in_bank, register_count}

-- An item that was set is found.
set_here : (xs : List (List ℕ)) (i : ℕ) (y : List ℕ) → i < length xs → slice_get (set xs i y) i ≡ Some y
set_here xs i y lt =
    slice_get-get_or (set xs i y) i y (rw (length-set xs i y) lt) ∙ ap (λ (v : List ℕ). Some v) (get_or-set_same xs i y y lt)

set_other : (xs : List (List ℕ)) (i r : ℕ) (y : List ℕ) → r ≢ i → slice_get (set xs i y) r ≡ slice_get xs r
set_other xs i r y ne =
    elim (cases_Bool (ltb r (length xs))) [
      | inl within ↦
          let lt : r < length xs = search (rules, within) in
          slice_get-get_or (set xs i y) r y (rw (length-set xs i y) lt) ∙ ap (λ (v : List ℕ). Some v) (get_or-set_other xs i r y y ne)
          ∙ sym (slice_get-get_or xs r y lt)
      | inr past ↦
          let le : length xs ≤ r = search (rules, past) in
          slice_get_past (set xs i y) r (rw (length-set xs i y) le) ∙ sym (slice_get_past xs r le)
    ]

at_set : (xs : List (List ℕ)) (i r : ℕ) (y : List ℕ) → i < length xs → slice_get (set xs i y) r ≡ cond (eqb r i) (Some y) (slice_get xs r)
at_set xs i r y lt =
    elim (cases_Bool (eqb r i)) [
      | inl here ↦ let e : r ≡ i = eqb-true r i here in rw (here, e) (set_here xs i y lt)
      | inr there ↦ rw there (set_other xs i r y (λ e. both_ways (eqb r i) there (eq-eqb r i e)))
    ]

-- One register of a bank changed by this, the others as they were.
abbrev Changes : (List ℕ → List ℕ) → List (List ℕ) → List (List ℕ) → ℕ → ℕ → Type 0
Changes change registers after index r =
    in_bank (Some after) r
    ≡ cond (eqb r index) (option_map change (in_bank (Some registers) r)) (in_bank (Some registers) r)

changed : (change : List ℕ → List ℕ) (below here : Bool) (old new : List ℕ) (before : Option (List ℕ))
    → (here ≡ true → before ≡ Some old) → new ≡ change old
    → cond below (cond here (Some new) before) None ≡ cond here (option_map change (cond below before None)) (cond below before None)
changed change false true old new before is new_is = refl
changed change false false old new before is new_is = refl
changed change true false old new before is new_is = refl
changed change true true old new before is new_is = rw (is refl) (ap (λ (v : List ℕ). Some v) new_is)

-- A register set to what a change makes of its value.
changes_one : (change : List ℕ → List ℕ) (registers : List (List ℕ)) (index : ℕ) (old new : List ℕ) → index < length registers
    → slice_get registers index ≡ Some old → new ≡ change old → (r : ℕ) → Changes change registers (set registers index new) index r
changes_one change registers index old new lt is new_is r =
    rw (at_set registers index r new lt) (changed change (ltb r register_count) (eqb r index) old new (slice_get registers r)
    (λ here. let e : r ≡ index = eqb-true r index here in rw e is) new_is)

-- A register extended by a digest, the others as they were.
pub extends_one : (alg : Alg) (registers : List (List ℕ)) (index : ℕ) (old new digest : List ℕ) → index < length registers
    → slice_get registers index ≡ Some old → new ≡ extended_value alg old digest
    → ExtendsBank alg (Some registers) (Some (set registers index new)) index (Some digest)
extends_one alg registers index old new digest lt is extended = record {
  active = refl;
  values = changes_one (extended_by alg (Some digest)) registers index old new lt is extended;
}

kept : (b : Bool) (value : Option (List ℕ)) → value ≡ cond b (option_map (λ v. v) value) value
kept true None = refl
kept true (Some v) = refl
kept false value = refl

-- A bank without a digest stays as it was.
pub extends_none : (alg : Alg) (bank : Option (List (List ℕ))) (index : ℕ) → ExtendsBank alg bank bank index None
extends_none alg bank index = record { active = refl; values = λ r. kept (eqb r index) (in_bank bank r) }
