-- Units up to the first NUL unit: what is read is what was spelled, and what is spelled is read.
use Rattle.std.proofs.Common.{◌≡◌, ℕ, ◌+◌, ◌-◌, ◌≤◌, ◌<◌, Bool, true, false, not, ◌&&◌, eqb, cond, List, [], ◌∷◌, ◌++◌, length, take, drop, get_or, Result, Ok, Err, refl, sym, ap, subst, ◌∙◌, append_assoc, arith}
use Rattle.std.proofs.lemmas.Bool.{and_parts, eqb-true}
use Rattle.std.proofs.lemmas.List.{take_at, take_all, length-append, append-nil}
use Rattle.byte_fields.specs.Formats.{Begins, IsRead}
use Rattle.byte_fields.proofs.Steps.{ok_not_err}
use Rattle.byte_fields.proofs.FormatLaws.{Exact}
use Rattle.event_data.specs.declared.content.Mismatch.{Mismatch}
use Rattle.event_data.specs.declared.content.Mismatch.TheVariants.{Form}
use Rattle.event_data.specs.Names.{are_units, behind, units, units_at}
use Rattle.event_data.proofs.FormLaws.{AnyFault}

not_true : (b : Bool) → not b ≡ true → b ≡ false
not_true true e = absurd cc
not_true false e = refl

-- ---- what is spelled is read

units_again : (text rest : List ℕ) → are_units text ≡ true → units_at ((text ++ 0 ∷ 0 ∷ []) ++ rest) ≡ Ok (text, rest)
unfolding units_at
units_again [] rest are = refl
units_again (low ∷ []) rest are = absurd cc
units_again (low ∷ high ∷ text) rest are =
    let parts = and_parts (not (eqb low 0 && eqb high 0)) (are_units text) are in
    rw (not_true (eqb low 0 && eqb high 0) parts.0) (rw (units_again text rest parts.1) refl)

-- ---- what is read is what was spelled

abbrev Found : List ℕ → Result (List ℕ × List ℕ) Mismatch → Type 0
Found bytes (Ok x) = Begins units bytes x.0 x.1
Found bytes (Err fault) = Unit {0}

found_step : (low high : ℕ) (bytes : List ℕ) (nul : Bool) (reading : Result (List ℕ × List ℕ) Mismatch)
    → nul ≡ (eqb low 0 && eqb high 0) → Found bytes reading
    → Found (low ∷ high ∷ bytes) (cond nul (Ok ([], bytes)) (behind (low ∷ high ∷ []) reading))
found_step low high bytes true reading e found =
    let parts = and_parts (eqb low 0) (eqb high 0) (sym e) in
    record { is = refl; parts = rw (eqb-true low 0 parts.0, eqb-true high 0 parts.1) refl }
found_step low high bytes false (Ok x) e found =
    record { is = rw (← e) found.is; parts = ap (λ (t : List ℕ). low ∷ high ∷ t) found.parts }
found_step low high bytes false (Err fault) e found = tt

units_found : (bytes : List ℕ) → Found bytes (units_at bytes)
unfolding units_at
units_found [] = tt
units_found (low ∷ []) = tt
units_found (low ∷ high ∷ bytes) =
    found_step low high bytes (eqb low 0 && eqb high 0) (units_at bytes) refl (units_found bytes)

read_is : (bytes : List ℕ) (reading : Result (List ℕ × List ℕ) Mismatch) → units_at bytes ≡ reading → Found bytes reading
    → IsRead units bytes reading
read_is bytes (Ok x) e found = found
read_is bytes (Err Form) e found =
    (refl, λ text rest are parts. ok_not_err (text, rest) Form (sym (units_again text rest are) ∙ ap units_at (sym parts) ∙ e))

given_is : (bytes : List ℕ) (reading own : Result (List ℕ × List ℕ) Mismatch) → units_at bytes ≡ own → Found bytes own
    → IsRead units bytes reading → own ≡ reading
given_is bytes (Ok x) own e found is = sym e ∙ ap units_at is.parts ∙ units_again x.0 x.1 is.is
given_is bytes (Err fault) (Ok x) e found fail = absurd (fail.1 x.0 x.1 found.is found.parts)
given_is bytes (Err fault) (Err Form) e found fail = rw fail.0 refl

pub units_exact : Exact AnyFault units
units_exact = record {
  found = λ bytes fits. read_is bytes (units_at bytes) refl (units_found bytes);
  only = λ bytes reading is. given_is bytes reading (units_at bytes) refl (units_found bytes) is;
  faults = λ bytes fault fail. tt;
}

-- ---- reading by steps

behind_twice : (prefix more : List ℕ) (reading : Result (List ℕ × List ℕ) Mismatch)
    → behind prefix (behind more reading) ≡ behind (prefix ++ more) reading
behind_twice prefix more (Ok x) = ap (λ (t : List ℕ). Ok (t, x.1)) (sym (append_assoc prefix more x.0))
behind_twice prefix more (Err fault) = refl

pub behind_nothing : (reading : Result (List ℕ × List ℕ) Mismatch) → behind [] reading ≡ reading
behind_nothing (Ok x) = refl
behind_nothing (Err fault) = refl

-- What precedes the rest of the bytes.
abbrev pub before_rest : List ℕ → List ℕ → List ℕ
before_rest bytes rest = take (length bytes - length rest) bytes

-- The units so far, and those of the rest, are the units.
pub record IsOnWay (bytes rest : List ℕ) : Type 0 where
  pub parts : bytes ≡ before_rest bytes rest ++ rest
  pub less : length rest ≤ length bytes
  pub same : behind (before_rest bytes rest) (units_at rest) ≡ units_at bytes

pub way_begins : (bytes : List ℕ) → IsOnWay bytes bytes
way_begins bytes =
    let none : length bytes - length bytes ≡ 0 = omega arith in
    record { parts = rw none refl; less = omega arith; same = rw none (behind_nothing (units_at bytes)) }

before_grows : (bytes prefix : List ℕ) (low high : ℕ) (after : List ℕ) → bytes ≡ prefix ++ low ∷ high ∷ after
    → before_rest bytes after ≡ prefix ++ low ∷ high ∷ []
before_grows bytes prefix low high after e =
    let parts : bytes ≡ (prefix ++ low ∷ high ∷ []) ++ after = e ∙ sym (append_assoc prefix (low ∷ high ∷ []) after) in
    let size : length bytes ≡ length (prefix ++ low ∷ high ∷ []) + length after =
    ap length parts ∙ length-append (prefix ++ low ∷ high ∷ []) after in
    ap (λ (xs : List ℕ). take (length bytes - length after) xs) parts
    ∙ take_at (prefix ++ low ∷ high ∷ []) after (length bytes - length after) (omega (arith, size))

way_goes_on : (bytes : List ℕ) (low high : ℕ) (after : List ℕ) → (eqb low 0 && eqb high 0) ≡ false
    → IsOnWay bytes (low ∷ high ∷ after) → IsOnWay bytes after
unfolding units_at
way_goes_on bytes low high after other way =
    let prefix = before_rest bytes (low ∷ high ∷ after) in
    let grown = before_grows bytes prefix low high after way.parts in
    record {
      parts = way.parts ∙ sym (append_assoc prefix (low ∷ high ∷ []) after) ∙ ap (λ (t : List ℕ). t ++ after) (sym grown);
      less = omega (arith, way.less);
      same = ap (λ (t : List ℕ). behind t (units_at after)) grown ∙ sym (behind_twice prefix (low ∷ high ∷ []) (units_at after))
          ∙ ap (λ (b : Bool). behind prefix (cond b (Ok ([], after)) (behind (low ∷ high ∷ []) (units_at after)))) (sym other) ∙ way.same;
    }

-- Two bytes at least: the slice pattern that names them, and what follows.
after_two : (rest : List ℕ) → 2 ≤ length rest
    → (after : List ℕ) × (rest ≡ get_or rest 0 0 ∷ get_or rest 1 0 ∷ after) × (take (length rest - 2) (drop 2 rest) ≡ after)
after_two [] few = absurd (omega (arith, few))
after_two (low ∷ []) few = absurd (omega (arith, few))
after_two (low ∷ high ∷ after) few =
    let less : length (low ∷ high ∷ after) - 2 ≡ length after = omega arith in
    (after, refl, ap (λ (n : ℕ). take n after) less ∙ take_all (length after) after (omega arith))

-- The NUL unit is found.
pub way_ends : (bytes rest : List ℕ) → 2 ≤ length rest → (eqb (get_or rest 0 0) 0 && eqb (get_or rest 1 0) 0) ≡ true → IsOnWay bytes rest
    → units_at bytes ≡ Ok (before_rest bytes rest, take (length rest - 2) (drop 2 rest))
unfolding units_at
way_ends bytes rest few nul way =
    let two = after_two rest few in
    let zeros = and_parts (eqb (get_or rest 0 0) 0) (eqb (get_or rest 1 0) 0) nul in
    let begins : rest ≡ 0 ∷ 0 ∷ two.0 = two.1 ∙ rw (eqb-true (get_or rest 0 0) 0 zeros.0, eqb-true (get_or rest 1 0) 0 zeros.1) refl in
    sym way.same ∙ ap (λ (r : List ℕ). behind (before_rest bytes rest) (units_at r)) begins
    ∙ ap (λ (t : List ℕ). Ok (t, two.0)) (append-nil (before_rest bytes rest))
    ∙ ap (λ (t : List ℕ). Ok (before_rest bytes rest, t)) (sym two.2)

-- Another unit is passed.
pub way_passes : (bytes rest : List ℕ) → 2 ≤ length rest → (eqb (get_or rest 0 0) 0 && eqb (get_or rest 1 0) 0) ≡ false
    → IsOnWay bytes rest → IsOnWay bytes (take (length rest - 2) (drop 2 rest))
way_passes bytes rest few other way =
    let two = after_two rest few in
    subst (IsOnWay bytes) (sym two.2)
    (way_goes_on bytes (get_or rest 0 0) (get_or rest 1 0) two.0 other (subst (IsOnWay bytes) two.1 way))

-- No unit is left.
pub way_fails : (bytes rest : List ℕ) → length rest < 2 → IsOnWay bytes rest → units_at bytes ≡ Err Form
unfolding units_at
way_fails bytes [] few way = sym way.same
way_fails bytes (low ∷ []) few way = sym way.same
way_fails bytes (low ∷ high ∷ rest) few way = absurd (omega (arith, few))
