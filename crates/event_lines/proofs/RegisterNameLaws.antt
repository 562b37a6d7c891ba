-- The names of registers, as they are looked up; a register as a cell.
use Rattle.std.proofs.Common.{◌≡◌, ℕ, eqb, Bool, true, false, cond, List, [], ◌∷◌, Option, Some, None, Bor, map, refl, ap, sym, ◌∙◌}
use Rattle.std.specs.Prelude.{find, option_map}
use Rattle.cells.proofs.FaultMemberLaws.{AreOther}
use Rattle.cells.proofs.LineLaws.{ArePlain}
use Rattle.cells.specs.Cells.{beside}
use Rattle.cells.specs.Values.{IsCount, members_of}
use Rattle.event_lines.specs.RegisterNames.{register_name_cell, register_cell, register_name, register_names}

-- ---- names

abbrev text_of : ℕ × Bor (List ℕ) → ℕ × List ℕ
text_of named = (named.0, named.1.now)

chosen_map : {X Y : Type 0} (h : Y → X) (b : Bool) (y : Y) (xs : Option X) (ys : Option Y) → xs ≡ option_map h ys
    → cond b (Some (h y)) xs ≡ option_map h (cond b (Some y) ys)
chosen_map h true y xs ys e = refl
chosen_map h false y xs ys e = e

find_map : {X Y : Type 0} (p : X → Bool) (h : Y → X) (ys : List Y) → find p (map h ys) ≡ option_map h (find (λ y. p (h y)) ys)
find_map p h [] = refl
find_map p h (y ∷ ys) = chosen_map h (p (h y)) y (find p (map h ys)) (find (λ y. p (h y)) ys) (find_map p h ys)

name_of_found : (found : Option (ℕ × Bor (List ℕ)))
    → option_map (λ named. named.1) (option_map text_of found) ≡ option_map (λ named. named.1.now) found
name_of_found None = refl
name_of_found (Some named) = refl

-- The first of the named registers with this number gives the name.
name_is : (rows : List (ℕ × Bor (List ℕ))) (register : ℕ) (found : Option (ℕ × Bor (List ℕ)))
    → map (λ named. (named.0, named.1.now)) rows ≡ register_names → found ≡ find (λ named. eqb named.0 register) rows
    → option_map (λ named. named.1.now) found ≡ register_name register
name_is rows register found all is =
    ap (option_map (λ named. named.1.now)) is
    ∙ sym (name_of_found (find (λ named. eqb named.0 register) rows))
    ∙ ap (option_map (λ named. named.1)) (sym (find_map (λ (named : ℕ × List ℕ). eqb named.0 register) text_of rows))
    ∙ ap (λ (rows : List (ℕ × List ℕ)). option_map (λ named. named.1) (find (λ (named : ℕ × List ℕ). eqb named.0 register) rows)) all

pub no_name : (rows : List (ℕ × Bor (List ℕ))) (register : ℕ) → map (λ named. (named.0, named.1.now)) rows ≡ register_names
    → find (λ named. eqb named.0 register) rows ≡ None → register_name register ≡ None
no_name rows register all is = sym (name_is rows register None all (sym is))

pub some_name : (rows : List (ℕ × Bor (List ℕ))) (register : ℕ) (named : ℕ × Bor (List ℕ))
    → map (λ named. (named.0, named.1.now)) rows ≡ register_names → find (λ named. eqb named.0 register) rows ≡ Some named
    → register_name register ≡ Some named.1.now
some_name rows register named all is = sym (name_is rows register (Some named) all (sym is))

-- ---- cells

name_plain : (most : ℕ) (name : Option (List ℕ)) → ArePlain (register_name_cell name).json most
unfolding beside
name_plain most None = tt
name_plain most (Some name) = (tt, tt)

pub register_plain : (most : ℕ) (before : List ℕ) (register : ℕ) → IsCount register → ArePlain (register_cell before register).json most
unfolding beside
register_plain most before register fits = ((register, fits, refl), name_plain most (register_name register))

name_other : (name : Option (List ℕ)) → AreOther (members_of (register_name_cell name).json)
unfolding beside
name_other None = tt
name_other (Some name) = (refl, tt)

pub register_other : (before : List ℕ) (register : ℕ) → AreOther (members_of (register_cell before register).json)
unfolding beside
register_other before register = (refl, name_other (register_name register))
