-- Registers that match by a quote are required, each in its bank.
use Rattle.std.proofs.Common.{◌≡◌, ℕ, Bool, true, false, List, [], ◌∷◌, ◌++◌, cond, map, refl, Some}
use Rattle.std.specs.List.{AllByRecursion, filter}
use Rattle.std.proofs.lemmas.Bool.{and_parts}
use Rattle.agent_inputs.specs.Loading.{Inputs}
use Rattle.judging.specs.Requests.{AttestRequested}
use Rattle.judging.specs.declared.request.Answer.{Answer}
use Rattle.judging.specs.declared.request.Answer.TheVariants as answers
use Rattle.attestations.specs.Quoted.{stated_of}
use Rattle.measured_data.specs.declared.confirmed.Pcr.{Pcr}
use Rattle.pcr_values.specs.Names.{names}
use Rattle.pcr_values.specs.declared.selection.BankRange.{BankRange}
use Rattle.tpm_quotes.specs.Spelling.{BankSelection, all_registers}
use Rattle.confirming.specs.Matching.{AreMatched, AreRequiredBy, ByQuote, is_confirmed, is_of_log, place_at, places_by, places_in, quoted_places}

abbrev AreNamed : List BankRange → List Pcr → Type 0
AreNamed required places = AllByRecursion (λ place. names required place.alg place.register ≡ true) places

-- ---- those of a bank, and of several

with_first : (required : List BankRange) (bits : List ℕ) (place : Pcr) (kept : List Pcr) (b : Bool) → is_confirmed required bits place ≡ b
    → AreNamed required kept → AreNamed required (cond b (place ∷ kept) kept)
with_first required bits place kept true is later =
    ((and_parts (names required place.alg place.register) (is_of_log bits place.register) is).0, later)
with_first required bits place kept false is later = later

kept_named : (required : List BankRange) (bits : List ℕ) (places : List Pcr) → AreNamed required (filter (is_confirmed required bits) places)
kept_named required bits [] = tt
kept_named required bits (place ∷ places) =
    with_first required bits place (filter (is_confirmed required bits) places) (is_confirmed required bits place) refl
    (kept_named required bits places)

both_named : (required : List BankRange) (first second : List Pcr) → AreNamed required first → AreNamed required second
    → AreNamed required (first ++ second)
both_named required [] second all more = more
both_named required (place ∷ first) second (here, others) more = (here, both_named required first second others more)

bank_named : (required : List BankRange) (selection : BankSelection) → AreNamed required (places_in required selection)
bank_named required selection = kept_named required selection.bits (map (place_at selection.alg) all_registers)

banks_named : (required : List BankRange) (selections : List BankSelection) → AreNamed required (quoted_places required selections)
banks_named required [] = tt
banks_named required (selection ∷ selections) =
    both_named required (places_in required selection) (quoted_places required selections) (bank_named required selection)
    (banks_named required selections)

answer_named : (required : List BankRange) (success : Bool) (answer : Answer) → AreNamed required (places_by required success answer)
answer_named required true (answers.Attestation report) = banks_named required (stated_of report.quoted).selections
answer_named required true (answers.Report report) = tt
answer_named required true (answers.Prefix prefix) = tt
answer_named required true (answers.Positions positions) = tt
answer_named required true (answers.ListReport report) = tt
answer_named required true (answers.Registers registers) = tt
answer_named required true (answers.Expected expected) = tt
answer_named required true (answers.Key report part) = tt
answer_named required false answer = tt

pub matched_are_required : (inputs : Inputs) (asked : AttestRequested) (log : List ℕ) (places : List Pcr) (status : ℕ)
    → AreMatched inputs (ByQuote asked) log (Some places) status → AreRequiredBy asked.required places
matched_are_required inputs asked log places status are = record {
  required = are.required;
  required_are = are.required_are;
  named = rw are.places_are (answer_named are.required are.given.is_success are.given.answer);
}
