-- The registers that match, one expected register after another; and which these are.
use Rattle.std.proofs.Common.{◌≡◌, ◌↔◌, ℕ, ◌+◌, ◌<◌, Bool, true, false, List, [], ◌∷◌, ◌++◌, length, map, take, Option, Some, None, refl, sym, ap, subst, ◌∙◌, append-nil, arith, inl, inr, cond, get_or}
use Rattle.std.specs.List.{Contains, filter, list_any}
use Rattle.std.specs.Prelude.{not, ◌==◌, ◌||◌, ◌&&◌}
use Rattle.std.specs.Option.{option_map_or}
use Rattle.std.specs.Str.{bytes_eq}
use Rattle.std.proofs.lemmas.Bool.{and_from, and_parts, eq-eqb, eqb-true, false_from_ne_true}
use Rattle.std.proofs.lemmas.List.{map-append}
use Rattle.std.proofs.lemmas.List.Elements.{Contains-append_cases, Contains-append_right, filter_more}
use Rattle.std.proofs.lemmas.Slice.Eq.{bytes_eq-Decides}
use Rattle.pcr_banks.specs.declared.alg.Alg.TheVariants.{Sha1}
use Rattle.pcr_banks.specs.declared.banks.Banks.{Banks}
use Rattle.pcr_banks.specs.declared.sets.AlgSet.{AlgSet}
use Rattle.pcr_banks.specs.Names.{alg_of, bytes_of, same_alg, value_at}
use Rattle.pcr_banks.proofs.AlgLaws.{same_alg_here, same_alg_is}
use Rattle.pcr_values.specs.declared.expected.Expected.{Expected}
use Rattle.boot_log.specs.Names.{IsFirmware, LogEvent}
use Rattle.boot_verdict.specs.Names.{is_value, pcr_after_log}
use Rattle.measured_data.specs.declared.confirmed.Pcr.{Pcr}
use Rattle.confirming.specs.Matching.{HasExpected, IsMatched, Values, counts, has_value, is_refuted, matched_places, place_of, refutes}

-- ---- one row more

module _ (p : Expected → Bool) (rows : List Expected) (i : ℕ) (d : Expected) (within : i < length rows) where
  abbrev pub row : Expected
  row = get_or rows i d

  pub matched_more : p row ≡ true
      → map place_of (filter p (take (i + 1) rows)) ≡ map place_of (filter p (take i rows)) ++ place_of row ∷ []
  matched_more passes =
      ap (map place_of) (filter_more p rows i d within ∙ ap (λ b. filter p (take i rows) ++ cond b (row ∷ []) []) passes)
      ∙ map-append place_of (filter p (take i rows)) (row ∷ [])

  pub unmatched_more : p row ≡ false → map place_of (filter p (take (i + 1) rows)) ≡ map place_of (filter p (take i rows))
  unmatched_more fails =
      ap (map place_of) (filter_more p rows i d within ∙ ap (λ b. filter p (take i rows) ++ cond b (row ∷ []) []) fails
      ∙ append-nil (filter p (take i rows)))

-- The values of the banks after the log are those after its events.
pub firmware_values : (algs : AlgSet) (events : List LogEvent) (banks : Banks) → IsFirmware algs events banks
    → value_at banks ≡ pcr_after_log algs events
firmware_values algs events banks firmware = λ i alg register. firmware.values alg register i

-- ---- which they are

module _ (row : Expected) where
  -- The expected register has this value, of its bank.
  abbrev HasIt : Option (List ℕ) → Type 0
  HasIt value = (alg_of row.value ≡ row.alg) × (value ≡ Some (bytes_of row.value))

  has_it : (value : Option (List ℕ)) → option_map_or (is_value row) value false ≡ true → HasIt value
  has_it None passes = cc
  has_it (Some value) passes =
      let both = and_parts (same_alg (alg_of row.value) row.alg) (bytes_eq (bytes_of row.value) value) passes in
      (same_alg_is (alg_of row.value) row.alg both.0, ap (λ (v : List ℕ). Some v) (sym ((bytes_eq-Decides (bytes_of row.value) value).0 both.1)))

  with_it : (value : Option (List ℕ)) → HasIt value → option_map_or (is_value row) value false ≡ true
  with_it value (alg_is, value_is) = rw (value_is, alg_is)
      (and_from (same_alg row.alg row.alg) (bytes_eq (bytes_of row.value) (bytes_of row.value)) (same_alg_here row.alg)
      ((bytes_eq-Decides (bytes_of row.value) (bytes_of row.value)).1 refl))

module _ (p : Expected → Bool) where
  -- A row that passes, whose place this is.
  abbrev Passes : List Expected → Pcr → Type 0
  Passes rows place = (row : Expected) × Contains rows row × (place ≡ place_of row) × (p row ≡ true)

  further : (first : Expected) (rows : List Expected) (place : Pcr) → Passes rows place → Passes (first ∷ rows) place
  further first rows place (it, among, is, passes) = (it, Contains-append_right (first ∷ []) rows it among, is, passes)

  only : (first place : Pcr) → Contains (first ∷ []) place → place ≡ first
  only first place (k, lt, is) = let none : k ≡ 0 = omega (arith, lt) in sym (subst (λ (n : ℕ). get_or (first ∷ []) n place ≡ place) none is)

  kept_first : (first : Expected) (rows : List Expected) (place : Pcr) → (Contains (map place_of (filter p rows)) place → Passes rows place)
      → (b : Bool) → p first ≡ b → Contains (map place_of (cond b (first ∷ filter p rows) (filter p rows))) place → Passes (first ∷ rows) place
  kept_first first rows place so false fails has = further first rows place (so has)
  kept_first first rows place so true passes has = elim (Contains-append_cases (place_of first ∷ []) (map place_of (filter p rows)) place has) [
    | inl here ↦ (first, (0, omega arith, refl), only (place_of first) place here, passes)
    | inr later ↦ further first rows place (so later)
  ]

  kept : (rows : List Expected) (place : Pcr) → Contains (map place_of (filter p rows)) place → Passes rows place
  kept [] place (k, lt, is) = absurd (omega (arith, lt))
  kept (first ∷ rows) place has = kept_first first rows place (kept rows place) (p first) refl has

  -- What is among the later rows' places is among those with the first.
  later : (b : Bool) (first : Expected) (rows : List Expected) (place : Pcr) → Contains (map place_of (filter p rows)) place
      → Contains (map place_of (cond b (first ∷ filter p rows) (filter p rows))) place
  later false first rows place has = has
  later true first rows place has = Contains-append_right (place_of first ∷ []) (map place_of (filter p rows)) place has

  passing : (rows : List Expected) (it : Expected) → Contains rows it → p it ≡ true → Contains (map place_of (filter p rows)) (place_of it)
  passing [] it (k, lt, is) passes = absurd (omega (arith, lt))
  passing (first ∷ rows) it among passes = elim (Contains-append_cases (first ∷ []) rows it among) [
    | inl (k, lt, is) ↦
        let none : k ≡ 0 = omega (arith, lt) in
        let same : first ≡ it = subst (λ (n : ℕ). get_or (first ∷ []) n it ≡ it) none is in
        rw (same, passes) (0, omega arith, refl)
    | inr more ↦ later (p first) first rows (place_of it) (passing rows it more passes)
  ]

-- ---- whether a bank refutes it

true_is_not_false : true ≡ false → ⊥
true_is_not_false e = absurd cc

not_true_is : (b : Bool) → not b ≡ true → b ≡ false
not_true_is false e = refl
not_true_is true e = absurd cc

either_false : (a b : Bool) → a || b ≡ false → (a ≡ false) × (b ≡ false)
either_false false b e = (refl, e)
either_false true b e = absurd cc

module _ (p : Expected → Bool) where
  none_of : (rows : List Expected) (it : Expected) → list_any p rows ≡ false → Contains rows it → p it ≡ false
  none_of [] it none (k, lt, is) = absurd (omega (arith, lt))
  none_of (first ∷ rows) it none among =
      let both = either_false (p first) (list_any p rows) none in
      elim (Contains-append_cases (first ∷ []) rows it among) [
        | inl (k, lt, is) ↦
            let zero_is : k ≡ 0 = omega (arith, lt) in
            let same : first ≡ it = subst (λ (n : ℕ). get_or (first ∷ []) n it ≡ it) zero_is is in
            subst (λ (e : Expected). p e ≡ false) same both.0
        | inr more ↦ none_of rows it both.1 more
      ]

  none_by : (rows : List Expected) → ((it : Expected) → Contains rows it → p it ≡ false) → list_any p rows ≡ false
  none_by [] each = refl
  none_by (first ∷ rows) each =
      let here : p first ≡ false = each first (0, omega arith, refl) in
      rw here (none_by rows (λ it among. each it (Contains-append_right (first ∷ []) rows it among)))

unless_not : (b : Bool) → not b ≡ false → b ≡ true
unless_not true e = refl
unless_not false e = absurd cc

refuted_unless : (strong here has : Bool) → not strong && (here && not has) ≡ false → strong ≡ false → here ≡ true → has ≡ true
refuted_unless false true has e a b = unless_not has e
refuted_unless true here has e a b = absurd cc
refuted_unless false false has e a b = absurd cc

refuted_if : (strong here has : Bool) → (strong ≡ false → here ≡ true → has ≡ true) → not strong && (here && not has) ≡ false
refuted_if true here has so = refl
refuted_if false false has so = refl
refuted_if false true has so = rw (so refl refl) refl

module _ (algs : AlgSet) (events : List LogEvent) where
  abbrev value : Values
  value = pcr_after_log algs events

  its : (row : Expected) → has_value value row ≡ true → HasExpected algs events row
  its row passes =
      let both = has_it row (value row.alg row.register) passes in
      record { bank_is = both.0; value_is = both.1 }

  of_it : (row : Expected) → HasExpected algs events row → has_value value row ≡ true
  of_it row has = with_it row (value row.alg row.register) (has.bank_is, has.value_is)

  weak_not : (row : Expected) → (row.alg ≡ Sha1 → ⊥) → same_alg row.alg Sha1 ≡ false
  weak_not row strong = false_from_ne_true (same_alg row.alg Sha1) (λ is. strong (same_alg_is row.alg Sha1 is))

  abbrev Agreed : List Expected → ℕ → Type 0
  Agreed expected register = (other : Expected) → Contains expected other → other.register ≡ register → (other.alg ≡ Sha1 → ⊥)
      → HasExpected algs events other

  agreed : (expected : List Expected) (register : ℕ) → is_refuted value expected register ≡ false → Agreed expected register
  agreed expected register none other among same strong =
      its other (refuted_unless (same_alg other.alg Sha1) (other.register == register) (has_value value other)
      (none_of (refutes value register) expected other none among) (weak_not other strong) (eq-eqb other.register register same))

  not_sha1 : (row : Expected) → same_alg row.alg Sha1 ≡ false → row.alg ≡ Sha1 → ⊥
  not_sha1 row weak is = absurd (true_is_not_false (sym (rw is (same_alg_here Sha1)) ∙ weak))

  unrefuted : (expected : List Expected) (register : ℕ) → Agreed expected register → is_refuted value expected register ≡ false
  unrefuted expected register so =
      none_by (refutes value register) expected (λ other among. refuted_if (same_alg other.alg Sha1) (other.register == register)
      (has_value value other) (λ weak here. of_it other (so other among (eqb-true other.register register here) (not_sha1 other weak))))

pub matched_are : (algs : AlgSet) (events : List LogEvent) (expected : List Expected) (place : Pcr)
    → Contains (matched_places algs events expected) place ↔ IsMatched algs events expected place
matched_are algs events expected place =
    let value : Values = pcr_after_log algs events in (
      λ has.
          let (it, among, is, passes) = kept (counts value expected) expected place has in
          let both = and_parts (has_value value it) (not (is_refuted value expected it.register)) passes in
          record {
            row = it;
            among = among;
            place_is = is;
            has = its algs events it both.0;
            agreed = agreed algs events expected it.register (not_true_is (is_refuted value expected it.register) both.1);
          },
      λ matched.
          let passes = and_from (has_value value matched.row) (not (is_refuted value expected matched.row.register))
          (of_it algs events matched.row matched.has)
          (rw (unrefuted algs events expected matched.row.register matched.agreed) refl) in
          rw matched.place_is (passing (counts value expected) expected matched.row matched.among passes),
    )
