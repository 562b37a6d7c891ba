-- Banks that are kept for a quote.
use Rattle.std.proofs.Common.{◌≡◌, ℕ, Bool, true, false, cond, ◌||◌, List, [], ◌∷◌, ◌++◌, map, Option, None, refl, sym, ap, ◌∙◌}
use Rattle.std.specs.Prelude.{bytes_eq, filter}
use Rattle.std.specs.Option.{option_map_or}
use Rattle.std.proofs.lemmas.List.{map-append}
use Rattle.pcr_banks.specs.declared.alg.Alg.{Alg}
use Rattle.pcr_banks.specs.declared.banks.Banks.{Banks}
use Rattle.pcr_banks.specs.Names.{alg_of, bytes_of, has_alg, hash_of, same_alg, value_at}
use Rattle.pcr_banks.proofs.AlgLaws.{same_alg_here}
use Rattle.pcr_banks.proofs.SetLaws.{has_where}
use Rattle.tpm_quotes.specs.Spelling.{BankSelection, TpmQuote, all_registers, is_selected, selected, selected_in}
use Rattle.tpm_quotes.specs.Quoting.{Values, all_joined, confirms}
use Rattle.attestations.specs.Kept.{HaveSame, algs_of, is_asked}

-- Banks with the values of those from which something is selected, and of no other.
pub kept_values : (selections : List BankSelection) (first second : Banks)
    → ((a : Alg) (r : ℕ) → value_at first a r ≡ cond (has_alg (algs_of selections) a) (value_at second a r) None)
    → (a : Alg) (r : ℕ) → value_at first a r ≡ cond (is_asked selections a) (value_at second a r) None
kept_values selections first second values a r =
    values a r ∙ ap (λ (b : Bool). cond b (value_at second a r) None) (has_where (is_asked selections) a)

-- Such banks have the values of the registers that are selected.
pub kept_same : (selections : List BankSelection) (first second : Banks)
    → ((a : Alg) (r : ℕ) → value_at first a r ≡ cond (is_asked selections a) (value_at second a r) None) → HaveSame selections first second
kept_same selections first second values alg register asked =
    values alg register ∙ ap (λ (b : Bool). cond b (value_at second alg register) None) asked

or_true : (a b : Bool) → b ≡ true → (a || b) ≡ true
or_true true b is = refl
or_true false b is = is

or_here : (a b : Bool) → a ≡ true → (a || b) ≡ true
or_here true b is = refl
or_here false b is = absurd cc

-- The value of a register.
abbrev value_in : Values → Alg × ℕ → Option (List ℕ)
value_in values register = values register.0 register.1

one_more : (passes : Bool) (register : Alg × ℕ) (registers : List (Alg × ℕ)) (first second : Values)
    → value_in first register ≡ value_in second register → map (value_in first) registers ≡ map (value_in second) registers
    → map (value_in first) (cond passes (register ∷ registers) registers) ≡ map (value_in second) (cond passes (register ∷ registers) registers)
one_more true register registers first second here rest = λ i. here i ∷ rest i
one_more false register registers first second here rest = rest

-- The values of the registers that are selected of a bank.
bank_values : (selection : BankSelection) (registers : List ℕ) (first second : Values)
    → ((register : ℕ) → first selection.alg register ≡ second selection.alg register)
    → map (value_in first) (filter (λ register. is_selected selection.bits register.1) (map (λ register. (selection.alg, register)) registers))
    ≡ map (value_in second) (filter (λ register. is_selected selection.bits register.1) (map (λ register. (selection.alg, register)) registers))
bank_values selection [] first second same = refl
bank_values selection (register ∷ registers) first second same =
    one_more (is_selected selection.bits register) (selection.alg, register)
    (filter (λ register. is_selected selection.bits register.1) (map (λ register. (selection.alg, register)) registers)) first second
    (same register) (bank_values selection registers first second same)

-- The values of the registers that are selected, where both have the same in each bank that is selected from.
pub selected_values : (selections : List BankSelection) (first second : Values)
    → ((alg : Alg) (register : ℕ) → is_asked selections alg ≡ true → first alg register ≡ second alg register)
    → map (value_in first) (selected selections) ≡ map (value_in second) (selected selections)
selected_values [] first second same = refl
selected_values (selection ∷ selections) first second same =
    let here = bank_values selection all_registers first second
    (λ register. same selection.alg register (or_here (same_alg selection.alg selection.alg) (is_asked selections selection.alg) (same_alg_here selection.alg))) in
    let rest = selected_values selections first second
    (λ alg register asked. same alg register (or_true (same_alg selection.alg alg) (is_asked selections alg) asked)) in
    map-append (value_in first) (selected_in selection) (selected selections)
    ∙ (λ i. here i ++ rest i)
    ∙ sym (map-append (value_in second) (selected_in selection) (selected selections))

-- A quote confirms both or neither.
pub confirms_same : (quote : TpmQuote) (first second : Values)
    → ((alg : Alg) (register : ℕ) → is_asked quote.selections alg ≡ true → first alg register ≡ second alg register)
    → confirms quote first ≡ confirms quote second
confirms_same quote first second same =
    ap (λ (values : List (Option (List ℕ))). option_map_or (λ bytes. bytes_eq (hash_of (alg_of quote.digest) bytes) (bytes_of quote.digest)) (all_joined values) false)
    (selected_values quote.selections first second same)
