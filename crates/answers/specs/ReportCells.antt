-- The cells of reports: on a log, a list and expected registers, on a confirmed prefix of the list, and on a list alone.
use Rattle.std.specs.Prelude.{ℕ, ◌==◌, nat_le, Bool, true, false, ◌&&◌, not, List, [], ◌∷◌, codes, length, map, if◌then◌else◌, Option, None, Some}
use Rattle.std.specs.List.{list_all}
use Rattle.pcr_banks.specs.Names.{bytes_of}
use Rattle.json.specs.Json.{Json}
use Rattle.pcr_values.specs.declared.selection.BankRange.{BankRange}
use Rattle.boot_verdict.specs.declared.isolation.Stray.{Stray}
use Rattle.boot_verdict.specs.declared.isolation.Strays.{Strays}
use Rattle.boot_verdict.specs.declared.report.Unconfirmed.{Unconfirmed}
use Rattle.boot_verdict.specs.declared.report.Aggregate.{Aggregate}
use Rattle.boot_verdict.specs.declared.report.Row.{Row}
use Rattle.boot_verdict.specs.declared.report.State.{State}
use Rattle.boot_verdict.specs.declared.report.State.TheVariants.{Match, Differ, Absent}
use Rattle.boot_verdict.specs.Names.{ListVerdict, Verdict, aggregate_word, are_none, is_match, list_matches, list_register, matches, required_list_matches, required_matches, unconfirmed_entry, unconfirmed_kind, unconfirmed_message, unconfirmed_number}
use Rattle.known_files.specs.declared.unknown.UnknownFiles.{UnknownFiles}
use Rattle.known_files.specs.Unknown.{has_no_unknown}
use Rattle.cells.specs.Values.{Member}
use Rattle.cells.specs.Cells.{Cell, beside, count, each, hex, if_some, in_order, item_number, list_at, nothing, number, number_member, object, object_at, text, when, word, word_member}
use Rattle.answers.specs.declared.row_order.RowOrder.{RowOrder}
use Rattle.answers.specs.declared.row_order.RowOrder.TheVariants.{Given, ResetLast}
use Rattle.answers.specs.RowCells.{missing_cells, row_cell, rows_cell}

abbrev pub counts_cell : ℕ → ℕ → ℕ → Cell Member
counts_cell events locality entries = in_order (
    number (codes "events ") (codes "events") events
    ∷ number (codes " locality ") (codes "locality") locality
    ∷ number (codes "\nentries ") (codes "entries") entries
    ∷ text (codes "\n")
    ∷ [])

abbrev pub compared_line : ℕ → Cell Member
compared_line compared = beside (count (codes "compared ") compared) (text (codes "\n"))

-- How many registers were compared; as text only where registers are required.
abbrev pub compared_cell : Option (List BankRange) → ℕ → Cell Member
compared_cell required compared =
    beside (number_member (codes "compared") compared) (if_some required (λ ranges. compared_line compared))

abbrev pub aggregate_cell : Aggregate → Cell Member
aggregate_cell aggregate = beside (word (codes "boot_aggregate ") (codes "boot_aggregate") (aggregate_word aggregate)) (text (codes "\n"))

-- How a register compares, and its value if it is another than the expected one.
abbrev pub state_cell : State → Cell Member
state_cell Match = word (codes " ") (codes "state") (codes "match")
state_cell (Differ value) = beside (word (codes " ") (codes "state") (codes "differ")) (hex (codes " ") (codes "value") (bytes_of value))
state_cell Absent = word (codes " ") (codes "state") (codes "absent")

-- The byte that fills a register's reset value, but for the locality in PCR 0.
abbrev pub reset_byte : ℕ → ℕ
reset_byte register = if nat_le 17 register && nat_le register 22 then 255 else 0

-- The register matches at its reset value.
abbrev pub is_at_reset : Row → Bool
is_at_reset row = is_match row && list_all (λ byte. byte == reset_byte row.expected.register) (bytes_of row.expected.value)

abbrev pub at_reset_cell : Cell Member
at_reset_cell = beside (word (codes " ") (codes "state") (codes "match")) (text (codes " at reset"))

abbrev pub given_row : Row → Cell Json
given_row row = object (row_cell row.expected (state_cell row.state))

abbrev pub reset_row : Row → Cell Json
reset_row row = object (row_cell row.expected at_reset_cell)

-- The registers that are not at reset, the required ones that are missing, and then those at reset, which are marked.
abbrev pub reset_last_rows : Option (List BankRange) → List Row → Cell Member
reset_last_rows required rows = list_at (codes "registers") (in_order (
    each (λ row. when (not (is_at_reset row)) (given_row row)) rows
    ∷ if_some required (missing_cells (codes "state") (map (λ row. row.expected) rows))
    ∷ each (λ row. when (is_at_reset row) (reset_row row)) rows
    ∷ []))

abbrev pub report_rows : RowOrder → Option (List BankRange) → List Row → Cell Member
report_rows Given required rows = rows_cell (codes "state") (λ row. row.expected) (λ row. state_cell row.state) required rows
report_rows ResetLast required rows = reset_last_rows required rows

-- ---- what extends a register that is not its own

-- An event or an entry, as `entry 17 extends 11`.
abbrev pub stray_cell : List ℕ → List ℕ → ℕ → ℕ → Cell Json
stray_cell before word number_of register = object (in_order (
    number before word number_of
    ∷ number (codes " extends ") (codes "register") register
    ∷ text (codes "\n")
    ∷ []))

abbrev pub stray_event : Option ℕ → Cell Json
stray_event event = if_some event (λ number. stray_cell (codes "event ") (codes "event") number list_register)

abbrev pub stray_entry : Option Stray → Cell Json
stray_entry entry = if_some entry (λ stray. stray_cell (codes "entry ") (codes "entry") stray.entry stray.register)

abbrev pub strays_cell : Strays → Cell Member
strays_cell strays =
    if are_none strays then nothing else list_at (codes "extends") (beside (stray_event strays.event) (stray_entry strays.entry))

-- ---- entries that are not known, and the verdict

abbrev pub unknown_cell : UnknownFiles → Cell Member
unknown_cell unknown = in_order (
    number (codes "known_from ") (codes "known_from") unknown.first
    ∷ text (codes "\n")
    ∷ list_at (codes "unknown") (each (λ number. item_number (codes "unknown entry ") number (codes "\n")) unknown.numbers.items)
    ∷ [])

abbrev pub verdict_word : Bool → List ℕ
verdict_word true = codes "match"
verdict_word false = codes "differ"

-- The verdict: no match where an entry is unknown.
abbrev pub verdict_cell : Option UnknownFiles → Bool → Cell Member
verdict_cell unknown is_match =
    beside (word (codes "verdict ") (codes "verdict") (verdict_word (has_no_unknown unknown && is_match))) (text (codes "\n"))

-- ---- the report

-- What comes after the counts, with whether it is a match if no entry is unknown.
abbrev pub outcome_cell : RowOrder → Option (List BankRange) → Option UnknownFiles → Bool → Verdict → Cell Member
outcome_cell order required unknown is_match verdict = in_order (
    compared_cell required (length verdict.rows)
    ∷ aggregate_cell verdict.aggregate
    ∷ report_rows order required verdict.rows
    ∷ if_some required (λ ranges. strays_cell verdict.strays)
    ∷ if_some unknown unknown_cell
    ∷ verdict_cell unknown is_match
    ∷ [])

abbrev pub report_cell : RowOrder → Option (List BankRange) → Option UnknownFiles → Bool → Verdict → Cell Member
report_cell order required unknown is_match verdict =
    beside (counts_cell verdict.events verdict.locality verdict.entries) (outcome_cell order required unknown is_match verdict)

-- Whether the verdict is 'match', and all that is required holds.
abbrev pub meets : Option (List BankRange) → Verdict → Bool
meets None verdict = matches verdict
meets (Some ranges) verdict = required_matches ranges verdict

-- ---- on a confirmed prefix

-- How much of the list is confirmed, as `confirmed 97 of 99 entries`.
abbrev pub confirmed_cell : ℕ → ℕ → Cell Member
confirmed_cell prefix entries = in_order (
    number (codes "confirmed ") (codes "confirmed") prefix
    ∷ count (codes " of ") entries
    ∷ text (codes " entries\n")
    ∷ [])

-- What is wrong after that, told as a fault is.
abbrev pub unconfirmed_cell : Unconfirmed → Cell Member
unconfirmed_cell fault = beside (object_at (codes "unconfirmed") (in_order (
    word_member (codes "kind") (unconfirmed_kind fault)
    ∷ number_member (codes "number") (unconfirmed_number fault)
    ∷ if_some (unconfirmed_entry fault) (λ entry. number_member (codes "entry") entry)
    ∷ word [] (codes "message") (unconfirmed_message fault)
    ∷ [])))
    (text (codes "\n"))

-- The counts of the whole list, of which the prefix has the verdict; how much of it is confirmed, and what is wrong after that.
abbrev pub prefix_counts_cell : Verdict → ℕ → Option Unconfirmed → Cell Member
prefix_counts_cell prefix entries unconfirmed = in_order (
    counts_cell prefix.events prefix.locality entries
    ∷ confirmed_cell prefix.entries entries
    ∷ if_some unconfirmed unconfirmed_cell
    ∷ [])

-- These counts, and then what comes after the counts of a report on the prefix.
abbrev pub prefix_cell : RowOrder → Option (List BankRange) → Option UnknownFiles → Verdict → ℕ → Option Unconfirmed → Cell Member
prefix_cell order required unknown prefix entries unconfirmed =
    beside (prefix_counts_cell prefix entries unconfirmed) (outcome_cell order required unknown (meets required prefix) prefix)

-- ---- on a list alone

-- Whether the verdict is 'match', and all that is required holds.
abbrev pub list_meets : Option (List BankRange) → ListVerdict → Bool
list_meets None verdict = list_matches verdict
list_meets (Some ranges) verdict = required_list_matches ranges verdict

abbrev pub list_report_cell : RowOrder → Option (List BankRange) → Option UnknownFiles → ListVerdict → Cell Member
list_report_cell order required unknown verdict = in_order (
    number (codes "entries ") (codes "entries") verdict.entries
    ∷ text (codes "\n")
    ∷ compared_cell required (length verdict.rows)
    ∷ report_rows order required verdict.rows
    ∷ if_some required (λ ranges. strays_cell verdict.strays)
    ∷ if_some unknown unknown_cell
    ∷ verdict_cell unknown (list_meets required verdict)
    ∷ [])
