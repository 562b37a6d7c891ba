-- Selections: what is read is what was spelled, and what is spelled is read.
use Rattle.std.proofs.Common.{◌≡◌, ◌≢◌, ℕ, ◌^◌, ◌<◌, Bool, false, eqb, ltb, not, ◌||◌, List, [], ◌∷◌, ◌++◌, length, Some, None, Result, Ok, Err, refl, sym, ap, ◌∙◌, arith, inl, inr, map, lit<}
use Rattle.std.specs.Prelude.{flat_map, ok_or, IfErr}
use Rattle.std.specs.Int.{w32, to_be_bytes}
use Rattle.std.specs.List.{list_any}
use Rattle.std.proofs.lemmas.Bool.{ltb-false, le-ltb, not-false}
use Rattle.std.proofs.lemmas.Bool.Decides.{eqb_tells}
use Rattle.byte_fields.proofs.Steps.{ok_is}
use Rattle.byte_fields.proofs.FormatLaws.{Exact, big16_exact, big32_exact, passes, joined_spellings, byte_exact, sized_by_exact, followed_exact, unless_exact, mapped_exact, viewed_exact, counted_exact}
use Rattle.pcr_banks.specs.declared.alg.Alg.{Alg}
use Rattle.pcr_banks.specs.declared.alg.Alg.TheVariants.{Sha1, Sha256, Sha384, Sha512}
use Rattle.pcr_banks.specs.Names.{tpm_id_of}
use Rattle.tpm_quotes.specs.declared.fault.QuoteFault.{QuoteFault}
use Rattle.tpm_quotes.specs.declared.fault.QuoteFault.TheVariants.{Truncated, UnknownBank, BankTwice, ManyBanks, BadRegister, NothingSelected}
use Rattle.tpm_quotes.specs.Spelling.{BankSelection, IsSelection, AreSelections, is_low, most_banks, selection_spelling, selects_some}
use Rattle.tpm_quotes.specs.Reading.{alg_with, bank, selection, selections, selects_bank}
use Rattle.byte_fields.proofs.TurnLaws.{has_id, turn_is_distinct, distinct_in_turn}

pub list_any_map : {X Y : Type 0} (p : X → Bool) (h : Y → X) (ys : List Y) → list_any p (map h ys) ≡ list_any (λ y. p (h y)) ys
list_any_map p h [] = refl
list_any_map p h (y ∷ ys) = ap (λ (b : Bool). p (h y) || b) (list_any_map p h ys)

-- Any fault may come.
abbrev pub AnyFault : QuoteFault → Type 0
AnyFault fault = Unit {0}

not_equal : (a b : ℕ) → (a ≡ b → ⊥) → eqb a b ≡ false
not_equal a b other =
    elim (eqb_tells a b) [
      | inl same ↦ absurd (other same.1)
      | inr apart ↦ apart.0
    ]

-- ---- banks

pub known : (id : ℕ) (alg : Alg) → tpm_id_of alg ≡ id → alg_with id ≡ Some alg
known id Sha1 e = rw (← e) refl
known id Sha256 e = rw (← e) refl
known id Sha384 e = rw (← e) refl
known id Sha512 e = rw (← e) refl

pub unknown : (id : ℕ) → ((alg : Alg) → tpm_id_of alg ≢ id) → alg_with id ≡ None
unknown id other =
    rw (not_equal 4 id (other Sha1), not_equal 11 id (other Sha256), not_equal 12 id (other Sha384), not_equal 13 id (other Sha512)) refl

abbrev the_fault : QuoteFault → Result Alg QuoteFault
the_fault fault = Err fault

no_bank : (alg : Alg) → the_fault UnknownBank ≡ Ok alg → ⊥
no_bank alg e = cc

-- What a bank's identifier tells.
told_bank : (id : ℕ) (alg : Alg) → ok_or (alg_with id) UnknownBank ≡ Ok alg → id ≡ tpm_id_of alg
told_bank id alg e =
    elim (eqb_tells 4 id) [
      | inl same ↦ sym same.1 ∙ ap tpm_id_of (ok_is Sha1 alg (rw same.0 at e))
      | inr a ↦ elim (eqb_tells 11 id) [
        | inl same ↦ sym same.1 ∙ ap tpm_id_of (ok_is Sha256 alg (rw (a.0, same.0) at e))
        | inr b ↦ elim (eqb_tells 12 id) [
          | inl same ↦ sym same.1 ∙ ap tpm_id_of (ok_is Sha384 alg (rw (a.0, b.0, same.0) at e))
          | inr d ↦ elim (eqb_tells 13 id) [
            | inl same ↦ sym same.1 ∙ ap tpm_id_of (ok_is Sha512 alg (rw (a.0, b.0, d.0, same.0) at e))
            | inr f ↦ absurd (no_bank alg (rw (a.0, b.0, d.0, f.0) at e))
          ]
        ]
      ]
    ]

pub any_refusal : {X : Type 0} (r : Result X QuoteFault) → IfErr r AnyFault
any_refusal (Ok x) = tt
any_refusal (Err fault) = tt

bank_exact : Exact AnyFault bank
unfolding bank
bank_exact = viewed_exact (λ id alg is e. told_bank id alg e) (λ id. any_refusal (ok_or (alg_with id) UnknownBank)) (big16_exact {P = AnyFault} Truncated tt)

id_fits : (alg : Alg) → tpm_id_of alg < 2 ^ 16
id_fits Sha1 = lit< tt
id_fits Sha256 = lit< tt
id_fits Sha384 = lit< tt
id_fits Sha512 = lit< tt

-- ---- one selection

abbrev pub bank_id : BankSelection → ℕ
bank_id selection = tpm_id_of selection.alg

pub selection_exact : (before : List BankSelection) → Exact AnyFault (selection before)
unfolding selection
selection_exact before =
    mapped_exact (λ x is. refl) (followed_exact (unless_exact _ BankTwice tt bank_exact)
    (λ a. unless_exact _ BadRegister tt (sized_by_exact Truncated tt (byte_exact Truncated tt))))

selection_is : (before : List BankSelection) (x : BankSelection) → (selection before).Is x
    → IsSelection x × (has_id bank_id (bank_id x) before ≡ false)
unfolding selection
selection_is before x is = (
  record { fits = is.0.1.0.0.0; low = not-false (is_low x.bits) (passes (not (is_low x.bits)) BadRegister x.bits x.bits is.0.1.1) },
  passes (selects_bank (bank_id x) before) BankTwice x.alg x.alg is.0.0.1,
)

is_selection : (before : List BankSelection) (x : BankSelection) → IsSelection x → has_id bank_id (bank_id x) before ≡ false
    → (selection before).Is x
unfolding selection bank
is_selection before x is fresh =
    ((((id_fits x.alg, rw (known (bank_id x) x.alg refl) refl), rw fresh refl), (((is.fits, refl), refl), rw is.low refl)), refl)

selection_spelled : (before : List BankSelection) (x : BankSelection) → (selection before).spell x ≡ selection_spelling x
unfolding selection bank
selection_spelled before x = refl

-- ---- all of them

pub selections_exact : Exact AnyFault selections
unfolding selections
selections_exact =
    unless_exact _ NothingSelected tt (mapped_exact (λ x is. ap (λ (n : ℕ). (n, x.1)) is.1.0)
    (followed_exact (unless_exact _ ManyBanks tt (big32_exact {P = AnyFault} Truncated tt)) (λ n. counted_exact selection_exact n)))

pub selections_spelled : (xs : List BankSelection) → selections.spell xs ≡ to_be_bytes w32 (length xs) ++ flat_map selection_spelling xs
unfolding selections
selections_spelled xs =
    ap (λ (t : List ℕ). to_be_bytes w32 (length xs) ++ t) (joined_spellings selection selection_spelling selection_spelled [] xs)

pub selections_are : (xs : List BankSelection) → selections.Is xs → AreSelections xs
unfolding selections
selections_are xs is =
    let apart = turn_is_distinct selection bank_id IsSelection selection_is xs is.0.0.1.1 in
    record {
      each = apart.0;
      distinct = apart.1;
      few = ltb-false most_banks (length xs) (passes (ltb most_banks (length xs)) ManyBanks (length xs) (length xs) is.0.0.0.1);
      some = not-false (selects_some xs) (passes (not (selects_some xs)) NothingSelected xs xs is.1);
    }

pub are_selections : (xs : List BankSelection) → AreSelections xs → selections.Is xs
unfolding selections
are_selections xs are =
    let few : ltb most_banks (length xs) ≡ false = le-ltb most_banks (length xs) are.few in
    let turn = distinct_in_turn selection bank_id IsSelection is_selection xs are.each are.distinct in
    ((((omega (arith, are.few), rw few refl), (refl, turn)), refl), rw are.some refl)
