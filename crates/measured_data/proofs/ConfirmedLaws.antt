-- A part is confirmed where the test says so.
use Rattle.std.proofs.Common.{◌≡◌, List, ℕ, ◌==◌, ◌&&◌, ◌||◌, Bool, not, true, false, Option, Some, None, refl, sym, ap, subst, ◌∙◌}
use Rattle.std.specs.Prelude.{slice_index_or}
use Rattle.std.specs.Bool.{Decides}
use Rattle.std.specs.List.{Contains, list_all, list_any}
use Rattle.std.specs.Option.{option_map_or}
use Rattle.std.proofs.lemmas.Bool.{and_parts, and_from, eqb-true, eq-eqb, false_from_ne_true}
use Rattle.std.proofs.lemmas.Bool.Decides.{Decides-and, Decides-not}
use Rattle.std.proofs.lemmas.List.Folds.{Any-from_list_any, list_any_at}
use Rattle.pcr_banks.specs.declared.alg.Alg.{Alg}
use Rattle.pcr_banks.specs.declared.alg.Alg.TheVariants.{Sha1}
use Rattle.pcr_banks.specs.Names.{all_algs, same_alg}
use Rattle.pcr_banks.proofs.AlgLaws.{every_passes, list_has, list_passes, same_alg_here, same_alg_is, some_passes}
use Rattle.boot_log.specs.Names.{LogEvent}
use Rattle.measured_data.specs.declared.measured.Part.{Part}
use Rattle.measured_data.specs.declared.confirmed.Pcr.{Pcr}
use Rattle.measured_data.specs.Measuring.{has_digest_of, is_measured, part_in}
use Rattle.measured_data.specs.Confirming.{IsAnswering, IsConfirmed, has_answer, has_pcr, is_answering, is_confirmed}
use Rattle.byte_fields.specs.Spelling.{IsBytes}
use Rattle.measured_data.proofs.MeasuredLaws.{measured_told}

-- ---- places

place_is : (place : Pcr) (alg : Alg) (register : ℕ) → (same_alg place.alg alg && (place.register == register)) ≡ true
    → place ≡ record { alg = alg; register = register }
place_is place alg register e =
    let both = and_parts (same_alg place.alg alg) (place.register == register) e in
    let algs : place.alg ≡ alg = same_alg_is place.alg alg both.0 in
    let registers : place.register ≡ register = eqb-true place.register register both.1 in
    ap (λ (a : Alg). record { alg = a; register = place.register }) algs ∙ ap (λ (r : ℕ). record { alg = alg; register = r }) registers

pub place_told : (places : List Pcr) (alg : Alg) (register : ℕ)
    → Decides (has_pcr places alg register) (Contains places (record { alg = alg; register = register }))
place_told places alg register =
    let test = λ (place : Pcr). same_alg place.alg alg && (place.register == register) in
    let here : Pcr = record { alg = alg; register = register } in (
      λ e.
          let found = Any-from_list_any test places e in
          let is = place_is found.1 alg register found.4 in
          (found.0, found.2, subst (λ (place : Pcr). slice_index_or places found.0 place ≡ place) is found.3),
      λ is. list_any_at test places is.0 here is.1
          (rw (is.2) (and_from (same_alg alg alg) (register == register) (same_alg_here alg) (eq-eqb register register refl))),
    )

-- ---- a part

same_is : (a b : Alg) → Decides (same_alg a b) (a ≡ b)
same_is a b = (same_alg_is a b, λ e. rw e (same_alg_here b))

pub answering_told : (matched : List Pcr) (alg : Alg) (register : ℕ)
    → Decides (is_answering matched alg register) (IsAnswering matched alg register)
answering_told matched alg register =
    let both = Decides-and (not (same_alg alg Sha1)) (has_pcr matched alg register) (Decides-not (same_alg alg Sha1) (same_is alg Sha1))
    (place_told matched alg register) in (
      λ e. let is = both.0 e in record { strong = is.0; matches = is.1 },
      λ is. both.1 (is.strong, is.matches),
    )

-- A test of what is so where another holds.
follows : {A B : Type 0} (a b : Bool) → Decides a A → Decides b B → Decides (not a || b) (A → B)
follows true b first second = (λ e one. second.0 e, λ from. second.1 (from (first.0 refl)))
follows false b first second = (λ e one. let no = first.1 one in absurd cc, λ from. refl)

pub confirmed_told : (matched : List Pcr) (event : LogEvent) (part : Part) → IsBytes event.payload
    → Decides (is_confirmed matched event part) (IsConfirmed matched event part)
confirmed_told matched event part fits =
    let counted = λ (alg : Alg). is_answering matched alg event.register in
    let allows = λ (alg : Alg). not (is_answering matched alg event.register) || is_measured alg event part in
    let here = λ (alg : Alg). answering_told matched alg event.register in
    let allowed = λ (alg : Alg). follows (is_answering matched alg event.register) (is_measured alg event part) (here alg)
    (measured_told alg event part fits) in (
      λ e.
          let both = and_parts (list_any counted all_algs) (list_all allows all_algs) e in
          let found = some_passes counted both.0 in
          let is = (here found.0).0 found.1 in
          record {
            alg = found.0;
            strong = is.strong;
            matches = is.matches;
            every = λ bank strong matches. (allowed bank).0 (every_passes allows both.1 bank) (record { strong = strong; matches = matches });
          },
      λ is. and_from (list_any counted all_algs) (list_all allows all_algs)
          (list_has counted is.alg ((here is.alg).1 (record { strong = is.strong; matches = is.matches })))
          (list_passes allows (λ bank. (allowed bank).1 (λ answering. is.every bank answering.strong answering.matches))),
    )

-- The same test, of bytes that are the part's, or where the event has none.
pub confirmed_bytes : (matched : List Pcr) (event : LogEvent) (part : Part) (bytes : List ℕ) → Some bytes ≡ part_in part event
    → (has_answer matched event.register
    && list_all (λ alg. not (is_answering matched alg event.register) || has_digest_of alg event bytes) all_algs) ≡ is_confirmed matched event part
confirmed_bytes matched event part bytes e =
    ap (λ (found : Option (List ℕ)). has_answer matched event.register
    && list_all (λ alg. not (is_answering matched alg event.register) || option_map_or (has_digest_of alg event) found false) all_algs) e

not_measured : (alg : Alg) (event : LogEvent) (part : Part) → None ≡ part_in part event → is_measured alg event part ≡ false
not_measured alg event part e = ap (λ (found : Option (List ℕ)). option_map_or (has_digest_of alg event) found false) (sym e)

opposed : (a b : Bool) → a ≡ true → b ≡ false → (not a || b) ≡ true → ⊥
opposed true true here lacks e = absurd cc
opposed true false here lacks e = absurd cc
opposed false b here lacks e = absurd cc

none_confirmed : (matched : List Pcr) (event : LogEvent) (part : Part) → None ≡ part_in part event
    → is_confirmed matched event part ≡ true → ⊥
none_confirmed matched event part e all =
    let counted = λ (alg : Alg). is_answering matched alg event.register in
    let allows = λ (alg : Alg). not (is_answering matched alg event.register) || is_measured alg event part in
    let both = and_parts (list_any counted all_algs) (list_all allows all_algs) all in
    let found = some_passes counted both.0 in
    opposed (counted found.0) (is_measured found.0 event part) found.1 (not_measured found.0 event part e)
    (every_passes allows both.1 found.0)

pub confirmed_none : (matched : List Pcr) (event : LogEvent) (part : Part) → None ≡ part_in part event
    → false ≡ is_confirmed matched event part
confirmed_none matched event part e =
    sym (false_from_ne_true (is_confirmed matched event part) (none_confirmed matched event part e))
