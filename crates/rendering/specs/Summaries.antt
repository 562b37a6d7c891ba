-- What a verdict says, in numbers.
use Rattle.std.specs.Prelude.{ℕ, ◌==◌, ◌&&◌, not, Bool, true, false, if◌then◌else◌, List, [], ◌∷◌, ◌++◌, length, map, find, slice_get, Option, None, Some, option_map, is_some}
use Rattle.std.specs.List.{filter, list_all}
use Rattle.std.specs.Option.{option_map_or}
use Rattle.pcr_banks.specs.declared.alg.Alg.{Alg}
use Rattle.pcr_values.specs.declared.selection.BankRange.{BankRange}
use Rattle.pcr_values.specs.Names.{every_register}
use Rattle.boot_verdict.specs.declared.isolation.Strays.{Strays}
use Rattle.boot_verdict.specs.declared.report.Row.{Row}
use Rattle.boot_verdict.specs.Names.{ListVerdict, Verdict, are_none, expected_of_rows, is_good, is_match, is_missing, list_verdict_of, verdict_of}
use Rattle.known_files.specs.declared.unknown.UnknownFiles.{UnknownFiles}
use Rattle.known_files.specs.Unknown.{has_no_unknown}
use Rattle.tpm_quotes.specs.Spelling.{BankSelection, selects}
use Rattle.attestations.specs.Reports.{AttestVerdict, attest_verdict_of, is_signed}
use Rattle.judging.specs.declared.request.Answer.{Answer}
use Rattle.judging.specs.declared.request.Answer.TheVariants as answers
use Rattle.judging.specs.declared.request.Answered.{Answered}
use Rattle.rendering.specs.declared.summary.Outcome.{Outcome}
use Rattle.rendering.specs.declared.summary.Outcome.TheVariants.{NoVerdict, Match, Differ}
use Rattle.rendering.specs.declared.summary.Reason.{Reason}
use Rattle.rendering.specs.declared.summary.Reason.TheVariants.{SignatureNotChecked, OtherValue, NotExpected, OtherQuote, BootAggregate, NotApart, UnknownFile, NothingCompared}
use Rattle.rendering.specs.declared.summary.Summary.{Summary}

-- No verdict.
abbrev pub no_summary : Summary
no_summary = record {
  verdict = NoVerdict;
  reason = None;
  compared = 0;
  matching = 0;
  first = None;
  missing = 0;
  entries = 0;
  judged = 0;
  unknown = 0;
}

abbrev pub is_match_of : Outcome → Bool
is_match_of Match = true
is_match_of outcome = false

-- The verdict is a match though nothing was compared.
abbrev pub compares_nothing : Summary → Bool
compares_nothing summary = is_match_of summary.verdict && (summary.compared == 0)

abbrev pub outcome_of : Bool → Outcome
outcome_of true = Match
outcome_of false = Differ

-- The first reason that holds, if the verdict is no match.
abbrev pub reason_of : Bool → List (Bool × Reason) → Option Reason
reason_of true reasons = None
reason_of false reasons = option_map (λ reason. reason.1) (find (λ reason. reason.0) reasons)

abbrev pub count_of : Option UnknownFiles → ℕ
count_of unknown = option_map_or (λ unknown. length unknown.numbers.items) unknown 0

-- ---- by expected registers

abbrev pub register_of : Row → Alg × ℕ
register_of row = (row.expected.alg, row.expected.register)

-- The registers that do not match.
abbrev pub differing_of : List Row → List (Alg × ℕ)
differing_of rows = map register_of (filter (λ row. not (is_match row)) rows)

-- Those that are required, and have no row.
abbrev pub missing_of : Option (List BankRange) → List Row → List (Alg × ℕ)
missing_of None rows = []
missing_of (Some ranges) rows = filter (λ register. is_missing ranges (expected_of_rows rows) register.0 register.1) every_register

-- What rows tell, where these registers are required.
abbrev pub summary_of_rows : Bool → Option (List BankRange) → Option UnknownFiles → List Row → Summary
summary_of_rows success required unknown rows = record no_summary {
  verdict = outcome_of success;
  compared = length rows;
  matching = length (filter is_match rows);
  first = slice_get (differing_of rows ++ missing_of required rows) 0;
  missing = length (missing_of required rows);
  unknown = count_of unknown;
}

-- What is against a match, where the list does not record the log's boot aggregate, or does. What extends a register that is not its own is
-- against it only where registers are required.
abbrev pub reasons_on : Option (List BankRange) → Option UnknownFiles → List Row → Bool → Strays → List (Bool × Reason)
reasons_on required unknown rows is_unbound strays =
    (not (list_all is_match rows), OtherValue)
    ∷ (not (length (missing_of required rows) == 0), NotExpected)
    ∷ (is_unbound, BootAggregate)
    ∷ (is_some required && not (are_none strays), NotApart)
    ∷ (not (has_no_unknown unknown), UnknownFile)
    ∷ (length rows == 0, NothingCompared)
    ∷ []

-- Of a list with so many entries, or of a prefix of it.
abbrev pub summary_of_report : Bool → Option (List BankRange) → Option UnknownFiles → Verdict → ℕ → Summary
summary_of_report success required unknown verdict entries = record (summary_of_rows success required unknown verdict.rows) {
  reason = reason_of success (reasons_on required unknown verdict.rows (not (is_good verdict.aggregate)) verdict.strays);
  entries = entries;
  judged = verdict.entries;
}

-- Of a list alone: if it is empty, it records no boot aggregate.
abbrev pub summary_of_list : Bool → Option (List BankRange) → Option UnknownFiles → ListVerdict → Summary
summary_of_list success required unknown verdict = record (summary_of_rows success required unknown verdict.rows) {
  reason = reason_of success (reasons_on required unknown verdict.rows (verdict.entries == 0) verdict.strays);
  entries = verdict.entries;
  judged = verdict.entries;
}

-- ---- by a quote

-- The registers that it selects.
abbrev pub selected_of : List BankSelection → List (Alg × ℕ)
selected_of selections = filter (λ register. selects selections register.0 register.1) every_register

-- If nobody looked at the signature there is no verdict.
abbrev pub outcome_by : Bool → Bool → Outcome
outcome_by success is_signed = if is_signed then outcome_of success else NoVerdict

abbrev pub reasons_by : Option UnknownFiles → AttestVerdict → List (Bool × Reason)
reasons_by unknown report =
    (not (is_signed report.signature), SignatureNotChecked)
    ∷ (not report.is_quoted, OtherQuote)
    ∷ (not (is_good report.verdict.aggregate), BootAggregate)
    ∷ (not (are_none report.verdict.strays), NotApart)
    ∷ (not (has_no_unknown unknown), UnknownFile)
    ∷ []

-- Its registers match if it is of the values to which log and list replay, else none do. Rows tell no more than which register differs.
abbrev pub summary_of_quote : Bool → Option UnknownFiles → AttestVerdict → Summary
summary_of_quote success unknown report = record no_summary {
  verdict = outcome_by success (is_signed report.signature);
  reason = reason_of success (reasons_by unknown report);
  compared = length (selected_of report.quoted.selections);
  matching = if report.is_quoted then length (selected_of report.quoted.selections) else 0;
  first = slice_get (differing_of report.verdict.rows) 0;
  entries = option_map_or (λ whole. whole.entries) report.prefix report.verdict.entries;
  judged = report.verdict.entries;
  unknown = count_of unknown;
}

-- ---- of an answer

abbrev pub summary_by : Bool → Option (List BankRange) → Option UnknownFiles → Answer → Summary
summary_by success required unknown (answers.Report report) = summary_of_report success required unknown (verdict_of report) report.entries
summary_by success required unknown (answers.Prefix prefix) =
    summary_of_report success required unknown (verdict_of prefix.report) prefix.entries
summary_by success required unknown (answers.ListReport report) = summary_of_list success required unknown (list_verdict_of report)
summary_by success required unknown (answers.Attestation report) = summary_of_quote success unknown (attest_verdict_of report)
summary_by success required unknown (answers.Positions positions) = record no_summary { compared = length positions.items }
summary_by success required unknown answer = no_summary

abbrev pub summary_of : Answered → Summary
summary_of given = summary_by given.is_success given.requirement given.unknown given.answer
