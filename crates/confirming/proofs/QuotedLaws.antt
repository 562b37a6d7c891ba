-- The registers that match by a quote, one after another.
use Rattle.std.proofs.Common.{◌≡◌, ◌+◌, ◌<◌, ◌∙◌, Bool, List, ℕ, [], ◌∷◌, ◌++◌, refl, sym, ap, true, false, arith, cond, map, take, length, get_or}
use Rattle.std.specs.List.{range_with_len}
use Rattle.std.specs.Prelude.{filter, flat_map}
use Rattle.std.proofs.lemmas.List.{append-nil, take_more}
use Rattle.std.proofs.lemmas.List.FromFn.{filter_of_map_range_with_len_more}
use Rattle.std.proofs.lemmas.List.Folds.{flat_map-map}
use Rattle.std.proofs.lemmas.Grind.{flat_map-append}
use Rattle.pcr_banks.specs.declared.alg.Alg.{Alg}
use Rattle.pcr_values.specs.declared.selection.BankRange.{BankRange}
use Rattle.tpm_quotes.specs.Spelling.{BankSelection, all_registers}
use Rattle.measured_data.specs.declared.confirmed.Pcr.{Pcr}
use Rattle.attestations.specs.declared.report.Selected.{Selected}
use Rattle.attestations.specs.Quoted.{bank_selection_of}
use Rattle.confirming.specs.Matching.{is_confirmed, place_at, places_in, quoted_places}

-- ---- the registers of a bank

-- Those below a number.
abbrev pub below : List BankRange → Alg → List ℕ → ℕ → List Pcr
below required alg bits count = filter (is_confirmed required bits) (map (place_at alg) (range_with_len 0 count))

module _ (required : List BankRange) (alg : Alg) (bits : List ℕ) (count : ℕ) where
  below_more : below required alg bits (count + 1)
      ≡ below required alg bits count ++ cond (is_confirmed required bits (place_at alg count)) (place_at alg count ∷ []) []
  below_more = filter_of_map_range_with_len_more (is_confirmed required bits) (place_at alg) 0 count count (omega arith)

  pub below_taken : is_confirmed required bits (place_at alg count) ≡ true
      → below required alg bits (count + 1) ≡ below required alg bits count ++ place_at alg count ∷ []
  below_taken is =
      below_more ∙ ap (λ (b : Bool). below required alg bits count ++ cond b (place_at alg count ∷ []) []) is

  pub below_same : is_confirmed required bits (place_at alg count) ≡ false
      → below required alg bits (count + 1) ≡ below required alg bits count
  below_same is =
      below_more ∙ ap (λ (b : Bool). below required alg bits count ++ cond b (place_at alg count ∷ []) []) is
      ∙ append-nil (below required alg bits count)

pub all_below : (required : List BankRange) (selection : BankSelection)
    → places_in required selection ≡ below required selection.alg selection.bits 24
unfolding all_registers
all_below required selection = refl

-- ---- the registers of several banks

abbrev pub places_of : List BankRange → List Selected → List Pcr
places_of required selections = flat_map (λ selection. places_in required (bank_selection_of selection)) selections

pub one_bank_more : (required : List BankRange) (items : List Selected) (i : ℕ) (d : Selected) → i < length items
    → places_of required (take (i + 1) items)
    ≡ places_of required (take i items) ++ places_in required (bank_selection_of (get_or items i d))
one_bank_more required items i d lt =
    ap (places_of required) (take_more items i d lt)
    ∙ flat_map-append (λ selection. places_in required (bank_selection_of selection)) (take i items) (get_or items i d ∷ [])
    ∙ ap (λ (t : List Pcr). places_of required (take i items) ++ t) (append-nil (places_in required (bank_selection_of (get_or items i d))))

pub places_are : (required : List BankRange) (items : List Selected)
    → places_of required items ≡ quoted_places required (map bank_selection_of items)
places_are required items = sym (flat_map-map (places_in required) bank_selection_of items)
