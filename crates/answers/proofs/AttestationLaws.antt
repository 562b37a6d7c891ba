-- A report by a quote is one line, and has no member `fault`.
use Rattle.std.proofs.Common.{◌≡◌, ℕ, zero, suc, refl, ◌+◌, ◌≤◌, Bool, true, false, List, [], ◌∷◌, ◌++◌, Option, Some, None, codes, arith}
use Rattle.std.specs.Prelude.{◌&&◌, flat_map, IfSome}
use Rattle.std.specs.List.{AllByRecursion, range_with_len}
use Rattle.json.specs.Find.{get}
use Rattle.pcr_values.specs.Names.{all_registers}
use Rattle.boot_verdict.specs.declared.report.Row.{Row}
use Rattle.boot_verdict.specs.Names.{Verdict}
use Rattle.tpm_quotes.specs.Spelling.{BankSelection, is_selected, selects_one}
use Rattle.attestations.specs.declared.expected.ExpectedValues.{ExpectedValues}
use Rattle.attestations.specs.declared.expected.ExpectedValues.TheVariants as values
use Rattle.attestations.specs.declared.report.Whole.{Whole}
use Rattle.attestations.specs.declared.signature.SignatureState.{SignatureState}
use Rattle.attestations.specs.declared.signature.SignatureState.TheVariants as signatures
use Rattle.attestations.specs.Quoted.{Stated}
use Rattle.attestations.specs.Reports.{AttestVerdict, is_attested}
use Rattle.known_files.specs.declared.unknown.UnknownFiles.{UnknownFiles}
use Rattle.known_files.specs.Unknown.{has_no_unknown}
use Rattle.cells.specs.Values.{IsCount, IsOneLine, items_of, members_of, object_of}
use Rattle.cells.specs.Cells.{beside, each, if_some, item_number, list_at, object, object_at, when}
use Rattle.cells.proofs.FaultMemberLaws.{AreOther, lacks, others_joined}
use Rattle.cells.proofs.LineLaws.{ArePlain, ItemsArePlain, line_within, members_deeper, members_joined, values_joined}
use Rattle.answers.specs.declared.row_order.RowOrder.TheVariants.{Given}
use Rattle.answers.specs.AttestationCells.{attestation_cell, attestation_counts, bank_cell, comparison_cell, conclusion_cell, number_cell, quote_cell, selection_cell, stated_cell, values_cell}
use Rattle.answers.specs.Counted.{AreCounted, IsCountedClock, IsCountedUnknown, IsCountedWhole}
use Rattle.answers.specs.ReportCells.{report_rows, strays_cell, unconfirmed_cell, unknown_cell}
use Rattle.answers.proofs.LineLaws.{report_plain, strays_plain, unconfirmed_plain, unknown_plain}
use Rattle.answers.proofs.MemberLaws.{strays_other, unconfirmed_other, unknown_other}

-- ---- what the quote states

number_when : (is : Bool) (register : ℕ) → IsCount register → ItemsArePlain (items_of (when is (item_number (codes " ") register [])).json) 0
number_when true register fits = ((register, fits, refl), tt)
number_when false register fits = tt

numbers_from : (selection : BankSelection) (start count : ℕ) → start + count ≤ 24
    → ItemsArePlain (items_of (flat_map (λ r. (number_cell selection r).json) (range_with_len start count))) 0
numbers_from selection start zero fits = tt
numbers_from selection start (suc count) fits =
    values_joined 0 (number_cell selection start).json _ (number_when (is_selected selection.bits start) start (omega (arith, fits)))
    (numbers_from selection (start + 1) count (omega (arith, fits)))

numbers_plain : (selection : BankSelection) → ItemsArePlain (items_of (flat_map (λ r. (number_cell selection r).json) all_registers)) 0
unfolding all_registers
numbers_plain selection = numbers_from selection 0 24 (omega arith)

bank_when : (is : Bool) (selection : BankSelection) → ItemsArePlain (items_of (when is (object (bank_cell selection))).json) 2
unfolding beside each list_at object
bank_when true selection = ((tt, (numbers_plain selection, tt)), tt)
bank_when false selection = tt

banks_plain : (selections : List BankSelection) → ItemsArePlain (items_of (flat_map (λ selection. (selection_cell selection).json) selections)) 2
banks_plain [] = tt
banks_plain (selection ∷ selections) =
    values_joined 2 (selection_cell selection).json _ (bank_when (selects_one selection) selection) (banks_plain selections)

stated_plain : (stated : Stated) → IsCountedClock stated.clock → IsCount stated.firmware → ArePlain (stated_cell stated).json 3
unfolding beside each list_at object_at
stated_plain stated clock firmware = (
  banks_plain stated.selections,
  (
    tt,
    (
      ((stated.clock.milliseconds, clock.0, refl), ((stated.clock.resets, clock.1, refl), ((stated.clock.restarts, clock.2, refl), (tt, tt)))),
      ((stated.firmware, firmware, refl), tt),
    ),
  ),
)

-- ---- the report

counts_plain : (verdict : Verdict) (prefix : Option Whole) → IsCount verdict.events → IsCount verdict.locality → IsCount verdict.entries
    → IfSome prefix IsCountedWhole → ArePlain (attestation_counts verdict prefix).json 3
unfolding beside
counts_plain verdict None events locality entries fits =
    ((verdict.events, events, refl), ((verdict.locality, locality, refl), ((verdict.entries, entries, refl), tt)))
counts_plain verdict (Some whole) events locality entries fits = (
  (verdict.events, events, refl),
  (
    (verdict.locality, locality, refl),
    (
      (whole.entries, fits.0, refl),
      (
        (verdict.entries, entries, refl),
        members_deeper (members_of (if_some whole.unconfirmed unconfirmed_cell).json) 2 (unconfirmed_plain whole.unconfirmed fits.1),
      ),
    ),
  ),
)

values_plain : (expected : ExpectedValues) (rows : List Row) → AllByRecursion (λ row. IsCount row.expected.register) rows
    → ArePlain (values_cell Given expected rows).json 3
unfolding beside
values_plain values.NotGiven rows fit = tt
values_plain values.Confirmed rows fit = (tt, members_deeper (members_of (report_rows Given None rows).json) 2 (report_plain None rows fit))
values_plain values.Unconfirmed rows fit = (tt, tt)

conclusion_plain : (signature : SignatureState) (is_match : Bool) → ArePlain (conclusion_cell signature is_match).json 3
unfolding beside
conclusion_plain signatures.NotChecked is_match = (tt, (tt, tt))
conclusion_plain signatures.Checked is_match = (tt, (tt, tt))
conclusion_plain signatures.Valid is_match = (tt, (tt, tt))

pub attestation_line : (unknown : Option UnknownFiles) (report : AttestVerdict) → IsCountedClock report.quoted.clock → IsCount report.quoted.firmware
    → IsCount report.verdict.events → IsCount report.verdict.locality → IsCount report.verdict.entries
    → IfSome report.prefix IsCountedWhole → AreCounted report.verdict.strays → IfSome unknown IsCountedUnknown
    → AllByRecursion (λ row. IsCount row.expected.register) report.verdict.rows → IsOneLine (object_of (attestation_cell Given unknown report).json)
unfolding beside
attestation_line unknown report clock firmware events locality entries prefix strays counted rows =
    let few : 4 ≤ 8 = omega arith in
    let extends = members_deeper (members_of (strays_cell report.verdict.strays).json) 2 (strays_plain report.verdict.strays strays) in
    let compared : ArePlain (comparison_cell Given report).json 3 =
    (tt, members_joined 3 (values_cell Given report.expected report.verdict.rows).json _ (values_plain report.expected report.verdict.rows rows) extends) in
    let numbers = members_deeper (members_of (if_some unknown unknown_cell).json) 2 (unknown_plain unknown counted) in
    let last = members_joined 3 (if_some unknown unknown_cell).json
    ((quote_cell report.is_quoted).json ++ (conclusion_cell report.signature (has_no_unknown unknown && is_attested report)).json) numbers
    (tt, conclusion_plain report.signature (has_no_unknown unknown && is_attested report)) in
    line_within 4 _ few
    (members_joined 3 (stated_cell report.quoted).json _ (stated_plain report.quoted clock firmware)
    (members_joined 3 (attestation_counts report.verdict report.prefix).json _
    (counts_plain report.verdict report.prefix events locality entries prefix)
    (members_joined 3 (comparison_cell Given report).json _ compared last)))

-- ---- its members

counts_other : (verdict : Verdict) (prefix : Option Whole) → AreOther (members_of (attestation_counts verdict prefix).json)
unfolding beside
counts_other verdict None = (refl, (refl, (refl, tt)))
counts_other verdict (Some whole) = (refl, (refl, (refl, (refl, unconfirmed_other whole.unconfirmed))))

values_other : (expected : ExpectedValues) (rows : List Row) → AreOther (members_of (values_cell Given expected rows).json)
unfolding beside list_at
values_other values.NotGiven rows = tt
values_other values.Confirmed rows = (refl, (refl, tt))
values_other values.Unconfirmed rows = (refl, tt)

conclusion_other : (signature : SignatureState) (is_match : Bool) → AreOther (members_of (conclusion_cell signature is_match).json)
unfolding beside
conclusion_other signatures.NotChecked is_match = (refl, (refl, tt))
conclusion_other signatures.Checked is_match = (refl, (refl, tt))
conclusion_other signatures.Valid is_match = (refl, (refl, tt))

pub attestation_lacks : (unknown : Option UnknownFiles) (report : AttestVerdict)
    → get (codes "fault") (object_of (attestation_cell Given unknown report).json) ≡ None
unfolding beside each list_at object_at
attestation_lacks unknown report =
    let given = others_joined (values_cell Given report.expected report.verdict.rows).json _ (values_other report.expected report.verdict.rows)
    (strays_other report.verdict.strays) in
    let last = others_joined (if_some unknown unknown_cell).json
    ((quote_cell report.is_quoted).json ++ (conclusion_cell report.signature (has_no_unknown unknown && is_attested report)).json)
    (unknown_other unknown) (refl, conclusion_other report.signature (has_no_unknown unknown && is_attested report)) in
    let ended = others_joined (comparison_cell Given report).json _ (refl, given) last in
    let counted = others_joined (attestation_counts report.verdict report.prefix).json _ (counts_other report.verdict report.prefix) ended in
    lacks (object_of (attestation_cell Given unknown report).json) refl (refl, (refl, (refl, (refl, counted))))
