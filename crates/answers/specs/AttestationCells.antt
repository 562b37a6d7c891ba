-- The cells of a report by a quote.
use Rattle.std.specs.Prelude.{ℕ, Bool, true, false, ◌&&◌, List, [], ◌∷◌, codes, Option, None, Some}
use Rattle.json.specs.Json.{Json}
use Rattle.pcr_banks.specs.Names.{name_of}
use Rattle.pcr_values.specs.Names.{all_registers}
use Rattle.boot_verdict.specs.declared.report.Row.{Row}
use Rattle.boot_verdict.specs.Names.{Verdict}
use Rattle.tpm_quotes.specs.declared.quote.Clock.{Clock}
use Rattle.tpm_quotes.specs.Spelling.{BankSelection, is_selected, selects_one}
use Rattle.attestations.specs.declared.expected.ExpectedValues.{ExpectedValues}
use Rattle.attestations.specs.declared.expected.ExpectedValues.TheVariants.{NotGiven, Confirmed, Unconfirmed}
use Rattle.attestations.specs.declared.report.Whole.{Whole}
use Rattle.attestations.specs.declared.signature.SignatureState.{SignatureState}
use Rattle.attestations.specs.declared.signature.SignatureState.TheVariants.{NotChecked, Checked, Valid}
use Rattle.attestations.specs.Quoted.{Stated}
use Rattle.attestations.specs.Reports.{AttestVerdict, is_attested}
use Rattle.known_files.specs.declared.unknown.UnknownFiles.{UnknownFiles}
use Rattle.known_files.specs.Unknown.{has_no_unknown}
use Rattle.cells.specs.Values.{Member}
use Rattle.cells.specs.Cells.{Cell, beside, each, flag_member, hex, if_some, in_order, item_number, list_at, nothing, number, object, object_at, text, when, word, word_member}
use Rattle.answers.specs.declared.row_order.RowOrder.{RowOrder}
use Rattle.answers.specs.ReportCells.{aggregate_cell, counts_cell, prefix_counts_cell, report_rows, strays_cell, unknown_cell, verdict_word}

-- ---- what the quote states

-- The number of a register, if it is selected.
abbrev pub number_cell : BankSelection → ℕ → Cell Json
number_cell selection register = when (is_selected selection.bits register) (item_number (codes " ") register [])

-- A bank by name, and the registers that are selected of it, ascending, as `quoted sha256 0 1 2`.
abbrev pub bank_cell : BankSelection → Cell Member
bank_cell selection = in_order (
    word (codes "quoted ") (codes "bank") (name_of selection.alg)
    ∷ list_at (codes "registers") (each (number_cell selection) all_registers)
    ∷ text (codes "\n")
    ∷ [])

-- The bank, if any register of it is selected.
abbrev pub selection_cell : BankSelection → Cell Json
selection_cell selection = when (selects_one selection) (object (bank_cell selection))

-- The key's qualified name.
abbrev pub signer_cell : List ℕ → Cell Member
signer_cell signer = beside (hex (codes "signer ") (codes "signer") signer) (text (codes "\n"))

abbrev pub safe_text : Bool → List ℕ
safe_text true = codes " safe\n"
safe_text false = codes " unsafe\n"

-- The clock, as `clock 5120 resets 1 restarts 0 safe`.
abbrev pub clock_cell : Clock → Cell Member
clock_cell clock = object_at (codes "clock") (in_order (
    number (codes "clock ") (codes "milliseconds") clock.milliseconds
    ∷ number (codes " resets ") (codes "resets") clock.resets
    ∷ number (codes " restarts ") (codes "restarts") clock.restarts
    ∷ flag_member (codes "safe") clock.is_safe
    ∷ text (safe_text clock.is_safe)
    ∷ []))

abbrev pub firmware_cell : ℕ → Cell Member
firmware_cell firmware = beside (number (codes "firmware ") (codes "firmware") firmware) (text (codes "\n"))

-- The banks of which registers are selected, in the quote's order; the signer, the clock and the firmware.
abbrev pub stated_cell : Stated → Cell Member
stated_cell stated = in_order (
    list_at (codes "quoted") (each selection_cell stated.selections)
    ∷ signer_cell stated.signer
    ∷ clock_cell stated.clock
    ∷ firmware_cell stated.firmware
    ∷ [])

-- ---- the report

-- The counts of the list; if the verdict is on a prefix of it, those of the whole list, and how much of it is confirmed.
abbrev pub attestation_counts : Verdict → Option Whole → Cell Member
attestation_counts verdict None = counts_cell verdict.events verdict.locality verdict.entries
attestation_counts verdict (Some whole) = prefix_counts_cell verdict whole.entries whole.unconfirmed

-- Whether the quote confirms expected values.
abbrev pub confirmed_word : List ℕ → Cell Member
confirmed_word is = beside (word (codes "expected ") (codes "expected") is) (text (codes "\n"))

-- What came of expected values, if some were given; if they are confirmed, the rows.
abbrev pub values_cell : RowOrder → ExpectedValues → List Row → Cell Member
values_cell order NotGiven rows = nothing
values_cell order Confirmed rows = beside (confirmed_word (codes "confirmed")) (report_rows order None rows)
values_cell order Unconfirmed rows = confirmed_word (codes "unconfirmed")

-- How log and list compare: the boot aggregate, expected values, and what extends a register that is not its own.
abbrev pub comparison_cell : RowOrder → AttestVerdict → Cell Member
comparison_cell order report = in_order (
    aggregate_cell report.verdict.aggregate
    ∷ values_cell order report.expected report.verdict.rows
    ∷ strays_cell report.verdict.strays
    ∷ [])

-- Whether the quote is of the values to which log and list replay.
abbrev pub quote_cell : Bool → Cell Member
quote_cell is_quoted = beside (word (codes "quote ") (codes "quote") (verdict_word is_quoted)) (text (codes "\n"))

abbrev pub verdict_cell : Bool → Cell Member
verdict_cell is_match = beside (word (codes "verdict ") (codes "verdict") (verdict_word is_match)) (text (codes "\n"))

-- The verdict, if the caller says that he has verified the signature: text does not repeat that.
abbrev pub signed_cell : Bool → Cell Member
signed_cell is_match = beside (word_member (codes "signature") (codes "checked")) (verdict_cell is_match)

-- The verdict, if the signature was verified here.
abbrev pub valid_cell : Bool → Cell Member
valid_cell is_match = in_order (
    word (codes "signature ") (codes "signature") (codes "valid")
    ∷ text (codes "\n")
    ∷ verdict_cell is_match
    ∷ [])

-- There is no verdict if nobody verified it.
abbrev pub unsigned_cell : Cell Member
unsigned_cell = in_order (
    word (codes "signature ") (codes "signature") (codes "not checked")
    ∷ word_member (codes "verdict") (codes "signature not checked")
    ∷ text (codes "\n")
    ∷ [])

abbrev pub conclusion_cell : SignatureState → Bool → Cell Member
conclusion_cell NotChecked is_match = unsigned_cell
conclusion_cell Checked is_match = signed_cell is_match
conclusion_cell Valid is_match = valid_cell is_match

-- The report: what the quote states, the counts, how log and list compare, which entries are not known, how the quote compares, and the
-- verdict, which is no match if an entry is not known.
abbrev pub attestation_cell : RowOrder → Option UnknownFiles → AttestVerdict → Cell Member
attestation_cell order unknown report = in_order (
    stated_cell report.quoted
    ∷ attestation_counts report.verdict report.prefix
    ∷ comparison_cell order report
    ∷ if_some unknown unknown_cell
    ∷ quote_cell report.is_quoted
    ∷ conclusion_cell report.signature (has_no_unknown unknown && is_attested report)
    ∷ [])
