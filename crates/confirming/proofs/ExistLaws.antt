-- Registers that match exist: their text is read back.
use Rattle.std.proofs.Common.{◌≡◌, ◌+◌, ◌<◌, ◌≤◌, ℕ, zero, suc, Bool, true, false, List, [], ◌∷◌, ◌++◌, map, cond, flat_map, refl, sym, ap, subst, arith, Option, None, Some}
use Rattle.std.specs.List.{AllByRecursion, filter, range_with_len}
use Rattle.std.specs.Prelude.{option_to_list}
use Rattle.agent_inputs.specs.Loading.{Inputs}
use Rattle.judging.specs.declared.request.Answer.{Answer}
use Rattle.judging.specs.declared.request.Answer.TheVariants as answers
use Rattle.attestations.specs.Quoted.{stated_of}
use Rattle.measured_data.specs.declared.confirmed.Pcr.{Pcr}
use Rattle.pcr_banks.specs.declared.alg.Alg.{Alg}
use Rattle.pcr_banks.specs.Names.{register_count}
use Rattle.pcr_values.specs.declared.expected.Expected.{Expected}
use Rattle.pcr_values.specs.declared.selection.BankRange.{BankRange}
use Rattle.pcr_values.specs.ExpectedTexts.{Spells}
use Rattle.pcr_values.specs.Names.{IsExpectedText, SayAll, lines_of}
use Rattle.tpm_quotes.specs.Spelling.{BankSelection}
use Rattle.confirming.specs.Matching.{AreMatched, ByExpected, ByNothing, ByQuote, Confirmation, is_confirmed, place_at, place_of, places_by, places_in, quoted_places}
use Rattle.confirming.specs.Places.{AllExist, SpellsPlaces, matching_text}
use Rattle.confirming.proofs.PlaceLaws.{written_spells}
use Rattle.confirming.proofs.QuotedLaws.{all_below}

-- ---- some of them, and several lists of them

kept : (test : Pcr → Bool) (places : List Pcr) → AllExist places → AllExist (filter test places)
kept test [] all = tt
kept test (place ∷ places) (here, others) = with_first (test place) (kept test places others) where
  with_first : (b : Bool) → AllExist (filter test places) → AllExist (cond b (place ∷ filter test places) (filter test places))
  with_first true later = (here, later)
  with_first false later = later

both : (first second : List Pcr) → AllExist first → AllExist second → AllExist (first ++ second)
both [] second all more = more
both (place ∷ first) second (here, others) more = (here, both first second others more)

-- ---- by a quote

numbered : (alg : Alg) (first count : ℕ) → first + count ≤ register_count
    → AllExist (map (place_at alg) (range_with_len first count))
numbered alg first zero within = tt
numbered alg first (suc count) within = (omega (arith, within), numbered alg (first + 1) count (omega (arith, within)))

of_bank : (required : List BankRange) (selection : BankSelection) → AllExist (places_in required selection)
of_bank required selection =
    subst AllExist (sym (all_below required selection))
    (kept (is_confirmed required selection.bits) (map (place_at selection.alg) (range_with_len 0 24))
    (numbered selection.alg 0 24 (omega arith)))

of_banks : (required : List BankRange) (selections : List BankSelection) → AllExist (quoted_places required selections)
of_banks required [] = tt
of_banks required (selection ∷ selections) =
    both (places_in required selection) (quoted_places required selections) (of_bank required selection) (of_banks required selections)

of_answer : (required : List BankRange) (success : Bool) (answer : Answer) → AllExist (places_by required success answer)
of_answer required true (answers.Attestation report) = of_banks required (stated_of report.quoted).selections
of_answer required true (answers.Report report) = tt
of_answer required true (answers.Prefix prefix) = tt
of_answer required true (answers.Positions positions) = tt
of_answer required true (answers.ListReport report) = tt
of_answer required true (answers.Registers registers) = tt
of_answer required true (answers.Expected expected) = tt
of_answer required true (answers.Key report part) = tt
of_answer required false answer = tt

-- ---- by expected registers

abbrev RowsExist : List Expected → Type 0
RowsExist rows = AllByRecursion (λ row. row.register < register_count) rows

of_lines : (lines : List (List ℕ)) (end : Unit {0}) (rows : List Expected) → SayAll Spells tt lines end rows → RowsExist rows
of_lines [] end rows (same, none) = rw none tt
of_lines (line ∷ lines) end rows (next, None, others, says, more, parts) = rw parts (of_lines lines end others more)
of_lines (line ∷ lines) end rows (next, Some row, others, says, more, parts) = rw parts (says.exists, of_lines lines end others more)

of_rows : (test : Expected → Bool) (rows : List Expected) → RowsExist rows → AllExist (map place_of (filter test rows))
of_rows test [] all = tt
of_rows test (row ∷ rows) (here, others) = with_first (test row) (of_rows test rows others) where
  with_first : (b : Bool) → AllExist (map place_of (filter test rows))
      → AllExist (map place_of (cond b (row ∷ filter test rows) (filter test rows)))
  with_first true later = (here, later)
  with_first false later = later

-- ---- all that match

pub matched_exist : (inputs : Inputs) (confirmation : Confirmation) (log : List ℕ) (places : List Pcr) (status : ℕ)
    → AreMatched inputs confirmation log (Some places) status → AllExist places
matched_exist inputs ByNothing log places status (none, done) = absurd cc
matched_exist inputs (ByExpected place) log places status ((text, held, match), done) =
    rw match.places_are (of_rows _ match.expected (of_lines (lines_of text) match.text_is.end match.expected match.text_is.stated.say))
matched_exist inputs (ByQuote asked) log places status are =
    rw are.places_are (of_answer are.required are.given.is_success are.given.answer)

pub matched_read_back : (inputs : Inputs) (confirmation : Confirmation) (log : List ℕ) (places : List Pcr) (status : ℕ)
    → AreMatched inputs confirmation log (Some places) status → SpellsPlaces (matching_text places) places
matched_read_back inputs confirmation log places status are = written_spells places (matched_exist inputs confirmation log places status are)
