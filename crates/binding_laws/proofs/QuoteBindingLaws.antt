-- What a quote tells of the values of the selected registers.
use Rattle.std.proofs.Common.{◌≡◌, ℕ, zero, suc, ◌+◌, ◌<◌, ◌≤◌, Bool, true, false, cond, List, [], ◌∷◌, ◌++◌, length, take, drop, map, Option, Some, None, refl, sym, ap, subst, ◌∙◌, arith, inl, inr}
use Rattle.std.specs.Prelude.{◌⊎◌, IfSome, IsSome, filter, option_map, option_and_then, bytes_eq}
use Rattle.std.specs.List.{range_with_len, AllByRecursion}
use Rattle.std.specs.Option.{option_map_or}
use Rattle.std.proofs.lemmas.Bool.{and_parts, cases_Bool, or_cases}
use Rattle.std.proofs.lemmas.Bool.Decides.{eqb_tells}
use Rattle.std.proofs.lemmas.List.{take_at, drop_at}
use Rattle.std.proofs.lemmas.Slice.Eq.{bytes_eq-Decides}
use Rattle.pcr_banks.specs.declared.alg.Alg.{Alg}
use Rattle.pcr_banks.specs.Names.{alg_of, bytes_of, hash_of, size_of}
use Rattle.pcr_banks.proofs.AlgLaws.{same_alg_is}
use Rattle.tpm_quotes.specs.Spelling.{BankSelection, TpmQuote, all_registers, is_selected, selected, selected_in, selects}
use Rattle.tpm_quotes.specs.Quoting.{Values, confirms, joined, quoted_bytes}
use Rattle.binding_laws.specs.QuoteBinding.{AgreeWhereSelected, HaveSizes, QuotesCollide}

-- ---- joined values, taken apart

record Parts (value : Option (List ℕ)) (rest : Option (List ℕ)) (bytes : List ℕ) : Type 0 where
  head : List ℕ
  back : List ℕ
  head_is : value ≡ Some head
  back_is : rest ≡ Some back
  parts : head ++ back ≡ bytes

abbrev the_bytes : List ℕ → Option (List ℕ)
the_bytes bytes = Some bytes

bytes_are : (x y : List ℕ) → the_bytes x ≡ the_bytes y → x ≡ y
bytes_are x y e = cc

parts_of : (value rest : Option (List ℕ)) (bytes : List ℕ)
    → option_and_then (λ head. option_map (λ back. head ++ back) rest) value ≡ Some bytes → Parts value rest bytes
parts_of None rest bytes e = absurd cc
parts_of (Some head) None bytes e = absurd cc
parts_of (Some head) (Some back) bytes e =
    record { head = head; back = back; head_is = refl; back_is = refl; parts = bytes_are (head ++ back) bytes e }

same_parts : (head back other rest : List ℕ) → length head ≡ length other → head ++ back ≡ other ++ rest
    → (head ≡ other) × (back ≡ rest)
same_parts head back other rest size e = (
  sym (take_at head back (length head) refl) ∙ ap (take (length head)) e ∙ take_at other rest (length head) (sym size),
  sym (drop_at head back (length head) refl) ∙ ap (drop (length head)) e ∙ drop_at other rest (length head) (sym size),
)

sized_value : (size : ℕ) (o : Option (List ℕ)) (value : List ℕ) → IfSome o (λ v. length v ≡ size) → o ≡ Some value → length value ≡ size
sized_value size o value sized e =
    let P : Option (List ℕ) → Type 0 = λ v. IfSome v (λ w. length w ≡ size) in subst P e sized

-- Both have a value there, and it is the same.
abbrev Agree : Values → Values → Alg × ℕ → Type 0
Agree values others register = (values register.0 register.1 ≡ others register.0 register.1) × IsSome (values register.0 register.1)

agree : (values others : Values) (registers : List (Alg × ℕ)) (bytes : List ℕ) → HaveSizes values → HaveSizes others
    → joined values registers ≡ Some bytes → joined others registers ≡ Some bytes → AllByRecursion (Agree values others) registers
agree values others [] bytes sizes other_sizes e f = tt
agree values others (x ∷ registers) bytes sizes other_sizes e f =
    let one = parts_of (values x.0 x.1) (joined values registers) bytes e in
    let two = parts_of (others x.0 x.1) (joined others registers) bytes f in
    let size = sized_value (size_of x.0) (values x.0 x.1) one.head (sizes x.0 x.1) one.head_is in
    let other_size = sized_value (size_of x.0) (others x.0 x.1) two.head (other_sizes x.0 x.1) two.head_is in
    let same = same_parts one.head one.back two.head two.back (size ∙ sym other_size) (one.parts ∙ sym two.parts) in (
      (one.head_is ∙ ap the_bytes same.0 ∙ sym two.head_is, rw one.head_is refl),
      agree values others registers one.back sizes other_sizes one.back_is (two.back_is ∙ ap the_bytes (sym same.1)),
    )

-- ---- the selected registers

module _ (P : Alg × ℕ → Type 0) where
  rest_of : (b : Bool) (x : Alg × ℕ) (xs : List (Alg × ℕ)) → AllByRecursion P (cond b (x ∷ xs) xs) → AllByRecursion P xs
  rest_of true x xs all = all.1
  rest_of false x xs all = all

  head_of : (b : Bool) (x : Alg × ℕ) (xs : List (Alg × ℕ)) → AllByRecursion P (cond b (x ∷ xs) xs) → b ≡ true → P x
  head_of true x xs all e = all.0
  head_of false x xs all e = absurd cc

  both_parts : (xs ys : List (Alg × ℕ)) → AllByRecursion P (xs ++ ys) → AllByRecursion P xs × AllByRecursion P ys
  both_parts [] ys all = (tt, all)
  both_parts (x ∷ xs) ys all = let others = both_parts xs ys all.1 in ((all.0, others.0), others.1)

  among : (alg : Alg) (bits : List ℕ) (a n register : ℕ)
      → AllByRecursion P (filter (λ x. is_selected bits x.1) (map (λ r. (alg, r)) (range_with_len a n)))
      → a ≤ register → register < a + n → is_selected bits register ≡ true → P (alg, register)
  among alg bits a zero register all low high chosen = absurd (omega arith)
  among alg bits a (suc n) register all low high chosen =
      let others = filter (λ (x : Alg × ℕ). is_selected bits x.1) (map (λ r. (alg, r)) (range_with_len (a + 1) n)) in
      elim (eqb_tells a register) [
        | inl same ↦
            let Q : ℕ → Type 0 = λ r. P (alg, r) in
            subst Q same.1 (head_of (is_selected bits a) (alg, a) others all (rw same.1 chosen))
        | inr other ↦
            let apart = other.1 in
            among alg bits (a + 1) n register (rest_of (is_selected bits a) (alg, a) others all) (omega arith) (omega arith) chosen
      ]

  among_selected : (selections : List BankSelection) (alg : Alg) (register : ℕ) → AllByRecursion P (selected selections)
      → register < 24 → selects selections alg register ≡ true → P (alg, register)
  unfolding all_registers
  among_selected [] alg register all lt e = absurd cc
  among_selected (s ∷ selections) alg register all lt e =
      let parts = both_parts (selected_in s) (selected selections) all in
      elim (or_cases _ (selects selections alg register) e) [
        | inl here ↦
            let both = and_parts _ (is_selected s.bits register) here in
            let Q : Alg → Type 0 = λ a. P (a, register) in
            subst Q (same_alg_is s.alg alg both.0) (among s.alg s.bits 0 24 register parts.0 (omega arith) (omega arith) both.1)
        | inr there ↦ among_selected selections alg register parts.1 lt there
      ]

-- ---- what a quote tells

-- The quoted bytes, whose hash is the quote's digest.
record Quoted (quote : TpmQuote) (values : Values) : Type 0 where
  text : List ℕ
  are : quoted_bytes quote values ≡ Some text
  hash_is : hash_of (alg_of quote.digest) text ≡ bytes_of quote.digest

quoted_by : (alg : Alg) (o : Option (List ℕ)) (digest : List ℕ) → option_map_or (λ bytes. bytes_eq (hash_of alg bytes) digest) o false ≡ true
    → (text : List ℕ) × (o ≡ Some text) × (hash_of alg text ≡ digest)
quoted_by alg None digest e = absurd cc
quoted_by alg (Some text) digest e = (text, refl, (bytes_eq-Decides (hash_of alg text) digest).0 e)

quoted : (quote : TpmQuote) (values : Values) → confirms quote values ≡ true → Quoted quote values
quoted quote values e =
    let found = quoted_by (alg_of quote.digest) (quoted_bytes quote values) (bytes_of quote.digest) e in
    record { text = found.0; are = found.1; hash_is = found.2 }

pub tells : (quote : TpmQuote) (values others : Values) → HaveSizes values → HaveSizes others → confirms quote values ≡ true
    → confirms quote others ≡ true → AgreeWhereSelected quote values others ⊎ QuotesCollide quote values quote others
tells quote values others sizes other_sizes e f =
    let one = quoted quote values e in
    let two = quoted quote others f in
    elim (cases_Bool (bytes_eq one.text two.text)) [
      | inl same ↦
          let text = (bytes_eq-Decides one.text two.text).0 same in
          let all = agree values others (selected quote.selections) one.text sizes other_sizes one.are (two.are ∙ ap the_bytes (sym text)) in
          inl (λ alg register lt chosen. among_selected (Agree values others) quote.selections alg register all lt chosen)
      | inr other ↦ inr (record {
        first = one.text;
        second = two.text;
        first_kind = one.are;
        second_kind = two.are;
        different = λ same. let yes = (bytes_eq-Decides one.text two.text).1 same in let no : true ≡ false = sym yes ∙ other in absurd cc;
        one_hash = one.hash_is ∙ sym two.hash_is;
      })
    ]
