-- Each answer is one line.
use Rattle.std.proofs.Common.{ℕ, zero, suc, refl, ◌+◌, ◌≤◌, Bool, true, false, List, [], ◌∷◌, length, map, Option, Some, None, codes, arith}
use Rattle.std.specs.Prelude.{flat_map, if◌then◌else◌, IfSome}
use Rattle.std.specs.List.{AllByRecursion, range_with_len}
use Rattle.std.proofs.lemmas.List.Concat.{flat_map-append}
use Rattle.json.specs.Json.{Json}
use Rattle.pcr_banks.specs.declared.alg.Alg.{Alg}
use Rattle.pcr_banks.specs.declared.banks.Banks.{Banks}
use Rattle.pcr_banks.specs.Names.{all_algs, bytes_of, value_at}
use Rattle.pcr_values.specs.declared.expected.Expected.{Expected}
use Rattle.pcr_values.specs.declared.selection.BankRange.{BankRange}
use Rattle.pcr_values.specs.Names.{all_registers, differs, every_register}
use Rattle.ima_list.specs.declared.fault.ListFault.TheVariants as lists
use Rattle.ima_list.specs.declared.list_replay.ReplayFault.TheVariants as replays
use Rattle.boot_verdict.specs.declared.isolation.Stray.{Stray}
use Rattle.boot_verdict.specs.declared.isolation.Strays.{Strays}
use Rattle.boot_verdict.specs.declared.steps.Located.{Located}
use Rattle.boot_verdict.specs.declared.steps.Position.{Position}
use Rattle.boot_verdict.specs.declared.steps.Position.TheVariants as positions
use Rattle.boot_verdict.specs.declared.report.Unconfirmed.{Unconfirmed}
use Rattle.boot_verdict.specs.declared.report.Unconfirmed.TheVariants as faults
use Rattle.boot_verdict.specs.declared.report.Row.{Row}
use Rattle.boot_verdict.specs.declared.report.State.{State}
use Rattle.boot_verdict.specs.declared.report.State.TheVariants.{Match, Differ, Absent}
use Rattle.boot_verdict.specs.Names.{ListVerdict, Verdict, are_none, is_missing, unconfirmed_entry, unconfirmed_number}
use Rattle.known_files.specs.declared.unknown.UnknownFiles.{UnknownFiles}
use Rattle.cells.specs.Values.{IsCount, IsOneLine, Member, items_of, number_json, object_of}
use Rattle.cells.specs.Cells.{Cell, beside, each, if_some, list_at, nothing, number_member, object, object_at, when}
use Rattle.cells.proofs.LineLaws.{ArePlain, ItemsArePlain, members_joined, one_line, values_joined}
use Rattle.answers.specs.declared.row_order.RowOrder.TheVariants.{Given}
use Rattle.answers.specs.Counted.{AreCounted, IsCountedPosition, IsCountedUnknown}
use Rattle.answers.specs.PositionCells.{found_cell, finds, position_cell, positions_cell}
use Rattle.answers.specs.RegisterCells.{change_cell, changed_value, expected_cell, registers_cell, value_cell}
use Rattle.answers.specs.ReportCells.{compared_cell, list_report_cell, meets, outcome_cell, prefix_cell, report_cell, report_rows, state_cell, stray_entry, stray_event, strays_cell, unconfirmed_cell, unknown_cell}
use Rattle.answers.specs.RowCells.{if_missing, missing_cell, missing_cells, row_cell, rows_cell}

-- ---- values in an array

-- In one that a member of an answer has.
abbrev AreRows : List Json → Type 0
AreRows js = ItemsArePlain (items_of js) 1

pub each_plain : {A : Type 0} (most : ℕ) (Q : A → Type 0) (f : A → List Json) → ((x : A) → Q x → ItemsArePlain (items_of (f x)) most)
    → (xs : List A) → AllByRecursion Q xs → ItemsArePlain (items_of (flat_map f xs)) most
each_plain most Q f plain [] are = tt
each_plain most Q f plain (x ∷ xs) are = values_joined most (f x) _ (plain x are.0) (each_plain most Q f plain xs are.1)

module _ (f : Alg → ℕ → List Json) (plain : (alg : Alg) (r : ℕ) → IsCount r → AreRows (f alg r)) where
  value : Alg × ℕ → List Json
  value register = f register.0 register.1

  bank_plain : (alg : Alg) (start count : ℕ) → start + count ≤ 24 → AreRows (flat_map value (map (λ r. (alg, r)) (range_with_len start count)))
  unfolding value
  bank_plain alg start zero fits = tt
  bank_plain alg start (suc count) fits =
      values_joined 1 (f alg start) _ (plain alg start (omega (arith, fits))) (bank_plain alg (start + 1) count (omega (arith, fits)))

  banks_plain : (algs : List Alg) → AreRows (flat_map value (flat_map (λ alg. map (λ r. (alg, r)) (range_with_len 0 24)) algs))
  banks_plain [] = tt
  banks_plain (alg ∷ algs) =
      let bank : List (Alg × ℕ) = map (λ (r : ℕ). (alg, r)) (range_with_len 0 24) in
      rw (flat_map-append value bank (flat_map (λ alg. map (λ r. (alg, r)) (range_with_len 0 24)) algs))
      (values_joined 1 (flat_map value bank) _ (bank_plain alg 0 24 (omega arith)) (banks_plain algs))

  of_each_register : AreRows (flat_map (λ register. f register.0 register.1) every_register)
  unfolding every_register all_registers value
  of_each_register = banks_plain all_algs

-- ---- registers

value_plain : (alg : Alg) (register : ℕ) (value : List ℕ) → IsCount register → AreRows (value_cell alg register value).json
unfolding beside object
value_plain alg register value fits = ((tt, ((register, fits, refl), (tt, tt))), tt)

value_if : (is : Bool) (alg : Alg) (register : ℕ) (value : List ℕ) → IsCount register
    → AreRows (if_some (if is then Some value else None) (value_cell alg register)).json
value_if true alg register value fits = value_plain alg register value fits
value_if false alg register value fits = tt

changed_plain : (alg : Alg) (register : ℕ) (before now : Option (List ℕ)) → IsCount register
    → AreRows (if_some (changed_value before now) (value_cell alg register)).json
changed_plain alg register before None fits = tt
changed_plain alg register before (Some value) fits = value_if (differs before value) alg register value fits

pub registers_line : (now start : Banks) → IsOneLine (object_of (registers_cell now start).json)
unfolding each list_at
registers_line now start = one_line _ (
  of_each_register (λ alg r. (change_cell now start alg r).json)
      (λ alg r. changed_plain alg r (value_at start alg r) (value_at now alg r)),
  tt,
)

pub expected_line : (expected : List Expected) → AllByRecursion (λ e. IsCount e.register) expected
    → IsOneLine (object_of (expected_cell expected).json)
unfolding each list_at
expected_line expected fit = one_line _ (
  each_plain 1 (λ e. IsCount e.register) (λ e. (value_cell e.alg e.register (bytes_of e.value)).json)
      (λ e fits. value_plain e.alg e.register (bytes_of e.value) fits) expected fit,
  tt,
)

-- ---- rows

missing_when : (is : Bool) (name : List ℕ) (alg : Alg) (register : ℕ) → IsCount register
    → AreRows (when is (object (missing_cell name alg register))).json
unfolding beside object
missing_when true name alg register fits = ((tt, ((register, fits, refl), (tt, tt))), tt)
missing_when false name alg register fits = tt

missing_plain : (name : List ℕ) (required : Option (List BankRange)) (expected : List Expected)
    → AreRows (if_some required (missing_cells name expected)).json
unfolding each
missing_plain name None expected = tt
missing_plain name (Some ranges) expected =
    of_each_register (λ alg r. (if_missing name ranges expected alg r).json)
    (λ alg r. missing_when (is_missing ranges expected alg r) name alg r)

rows_plain : {A : Type 0} (Q : A → Type 0) (name : List ℕ) (expected_of : A → Expected) (said_of : A → Cell Member)
    → ((row : A) → Q row → IsCount (expected_of row).register × ArePlain (said_of row).json 0) → (required : Option (List BankRange)) (rows : List A)
    → AllByRecursion Q rows → ArePlain (rows_cell name expected_of said_of required rows).json 2
unfolding beside each list_at object
rows_plain Q name expected_of said_of plain required rows fit = (
  values_joined 1 (flat_map (λ row. (object (row_cell (expected_of row) (said_of row))).json) rows) _
      (each_plain 1 Q (λ row. (object (row_cell (expected_of row) (said_of row))).json)
      (λ x is. ((tt, (((expected_of x).register, (plain x is).0, refl), (tt, members_joined 0 (said_of x).json [] (plain x is).1 tt))), tt)) rows fit)
      (missing_plain name required (map expected_of rows)),
  tt,
)

state_plain : (state : State) → ArePlain (state_cell state).json 0
unfolding beside
state_plain Match = (tt, tt)
state_plain (Differ value) = (tt, (tt, tt))
state_plain Absent = (tt, tt)

pub report_plain : (required : Option (List BankRange)) (rows : List Row) → AllByRecursion (λ row. IsCount row.expected.register) rows
    → ArePlain (report_rows Given required rows).json 2
report_plain required rows fit =
    rows_plain (λ row. IsCount row.expected.register) (codes "state") (λ row. row.expected) (λ row. state_cell row.state)
    (λ row is. (is, state_plain row.state)) required rows fit

position_plain : (at : Position) → IsCountedPosition at → ArePlain (position_cell at).json 0
unfolding beside
position_plain positions.Reset fits = (tt, tt)
position_plain (positions.Event number) fits = (tt, ((number, fits, refl), tt))
position_plain (positions.Entry number) fits = (tt, ((number, fits, refl), tt))
position_plain positions.Nowhere fits = (tt, tt)
position_plain positions.Absent fits = (tt, tt)

-- ---- parts of a report

compared_plain : (required : Option (List BankRange)) (compared : ℕ) → IsCount compared → ArePlain (compared_cell required compared).json 2
unfolding beside
compared_plain None compared fits = ((compared, fits, refl), tt)
compared_plain (Some ranges) compared fits = ((compared, fits, refl), tt)

event_plain : (event : Option ℕ) → IfSome event IsCount → AreRows (stray_event event).json
unfolding beside object
event_plain None fits = tt
event_plain (Some event) fits = (((event, fits, refl), ((10, omega arith, refl), tt)), tt)

entry_plain : (entry : Option Stray) → IfSome entry (λ stray. IsCount stray.entry × IsCount stray.register) → AreRows (stray_entry entry).json
unfolding beside object
entry_plain None fits = tt
entry_plain (Some stray) fits = (((stray.entry, fits.0, refl), ((stray.register, fits.1, refl), tt)), tt)

unless_none : (is : Bool) (items : Cell Json) → AreRows items.json → ArePlain (if is then nothing else list_at (codes "extends") items).json 2
unfolding list_at
unless_none true items plain = tt
unless_none false items plain = (plain, tt)

pub strays_plain : (strays : Strays) → AreCounted strays → ArePlain (strays_cell strays).json 2
unfolding beside
strays_plain strays fits =
    unless_none (are_none strays) (beside (stray_event strays.event) (stray_entry strays.entry))
    (values_joined 1 (stray_event strays.event).json _ (event_plain strays.event fits.0) (entry_plain strays.entry fits.1))

required_strays : (required : Option (List BankRange)) (strays : Strays) → AreCounted strays
    → ArePlain (if_some required (λ ranges. strays_cell strays)).json 2
required_strays None strays fits = tt
required_strays (Some ranges) strays fits = strays_plain strays fits

pub unknown_plain : (unknown : Option UnknownFiles) → IfSome unknown IsCountedUnknown → ArePlain (if_some unknown unknown_cell).json 2
unfolding beside each list_at
unknown_plain None fits = tt
unknown_plain (Some unknown) fits = (
  (unknown.first, fits.0, refl),
  (each_plain 1 IsCount (λ n. number_json n ∷ []) (λ n is. ((n, is, refl), tt)) unknown.numbers.items fits.1, tt),
)

outcome_plain : (required : Option (List BankRange)) (unknown : Option UnknownFiles) (is_match : Bool) (verdict : Verdict)
    → IsCount (length verdict.rows) → AreCounted verdict.strays
    → IfSome unknown IsCountedUnknown → AllByRecursion (λ row. IsCount row.expected.register) verdict.rows
    → ArePlain (outcome_cell Given required unknown is_match verdict).json 2
unfolding beside
outcome_plain required unknown is_match verdict compared strays counted rows =
    members_joined 2 (compared_cell required (length verdict.rows)).json _ (compared_plain required _ compared) (
      tt,
      members_joined 2 (report_rows Given required verdict.rows).json _ (report_plain required verdict.rows rows)
          (members_joined 2 (if_some required (λ ranges. strays_cell verdict.strays)).json _ (required_strays required verdict.strays strays)
          (members_joined 2 (if_some unknown unknown_cell).json _ (unknown_plain unknown counted) (tt, tt))),
    )

-- ---- reports

pub report_line : (required : Option (List BankRange)) (unknown : Option UnknownFiles) (is_match : Bool) (verdict : Verdict)
    → IsCount verdict.events → IsCount verdict.locality → IsCount verdict.entries → IsCount (length verdict.rows)
    → AreCounted verdict.strays → IfSome unknown IsCountedUnknown → AllByRecursion (λ row. IsCount row.expected.register) verdict.rows
    → IsOneLine (object_of (report_cell Given required unknown is_match verdict).json)
unfolding beside
report_line required unknown is_match verdict events locality entries compared strays counted rows = one_line _ (
  (verdict.events, events, refl),
  (
    (verdict.locality, locality, refl),
    ((verdict.entries, entries, refl), outcome_plain required unknown is_match verdict compared strays counted rows),
  ),
)

number_after : (fault : Unconfirmed) → IsCount (unconfirmed_number fault)
number_after (faults.List (lists.Truncated entry)) = omega arith
number_after (faults.List (lists.BadRegister entry)) = omega arith
number_after (faults.List (lists.NameTooLong entry)) = omega arith
number_after (faults.List lists.Memory) = omega arith
number_after (faults.Replay (replays.BadTemplateDigest entry)) = omega arith

entry_after : (entry : Option ℕ) → IfSome entry IsCount → ArePlain (if_some entry (λ n. number_member (codes "entry") n)).json 1
entry_after None fits = tt
entry_after (Some entry) fits = ((entry, fits, refl), tt)

pub unconfirmed_plain : (unconfirmed : Option Unconfirmed) → IfSome unconfirmed (λ fault. IfSome (unconfirmed_entry fault) IsCount)
    → ArePlain (if_some unconfirmed unconfirmed_cell).json 2
unfolding beside object_at
unconfirmed_plain None fits = tt
unconfirmed_plain (Some fault) fits = (
  (
    tt,
    (
      (unconfirmed_number fault, number_after fault, refl),
      members_joined 1 (if_some (unconfirmed_entry fault) (λ n. number_member (codes "entry") n)).json _
          (entry_after (unconfirmed_entry fault) fits) (tt, tt),
    ),
  ),
  tt,
)

pub prefix_line : (required : Option (List BankRange)) (unknown : Option UnknownFiles) (prefix : Verdict) (entries : ℕ) (unconfirmed : Option Unconfirmed)
    → IsCount prefix.events → IsCount prefix.locality → IsCount prefix.entries → IsCount entries
    → IfSome unconfirmed (λ fault. IfSome (unconfirmed_entry fault) IsCount) → IsCount (length prefix.rows) → AreCounted prefix.strays
    → IfSome unknown IsCountedUnknown → AllByRecursion (λ row. IsCount row.expected.register) prefix.rows
    → IsOneLine (object_of (prefix_cell Given required unknown prefix entries unconfirmed).json)
unfolding beside
prefix_line required unknown prefix entries unconfirmed events locality confirmed all after compared strays counted rows =
    let told = members_joined 2 (if_some unconfirmed unconfirmed_cell).json _ (unconfirmed_plain unconfirmed after)
    (outcome_plain required unknown (meets required prefix) prefix compared strays counted rows) in
    one_line _ (
      (prefix.events, events, refl),
      ((prefix.locality, locality, refl), ((entries, all, refl), ((prefix.entries, confirmed, refl), told))),
    )

pub list_report_line : (required : Option (List BankRange)) (unknown : Option UnknownFiles) (verdict : ListVerdict)
    → IsCount verdict.entries → IsCount (length verdict.rows) → AreCounted verdict.strays
    → IfSome unknown IsCountedUnknown → AllByRecursion (λ row. IsCount row.expected.register) verdict.rows
    → IsOneLine (object_of (list_report_cell Given required unknown verdict).json)
unfolding beside
list_report_line required unknown verdict entries compared strays counted rows = one_line _ (
  (verdict.entries, entries, refl),
  members_joined 2 (compared_cell required (length verdict.rows)).json _ (compared_plain required _ compared)
      (members_joined 2 (report_rows Given required verdict.rows).json _ (report_plain required verdict.rows rows)
      (members_joined 2 (if_some required (λ ranges. strays_cell verdict.strays)).json _ (required_strays required verdict.strays strays)
      (members_joined 2 (if_some unknown unknown_cell).json _ (unknown_plain unknown counted) (tt, tt)))),
)

pub positions_line : (required : Option (List BankRange)) (located : List Located)
    → AllByRecursion (λ row. IsCount row.expected.register × IsCountedPosition row.position) located
    → IsOneLine (object_of (positions_cell required located).json)
unfolding beside
positions_line required located fit =
    let rows = rows_plain (λ row. IsCount row.expected.register × IsCountedPosition row.position) (codes "place") (λ row. row.expected)
    (λ row. position_cell row.position) (λ row is. (is.0, position_plain row.position is.1)) required located fit in
    one_line _ (members_joined 2 (rows_cell (codes "place") (λ row. row.expected) (λ row. position_cell row.position) required located).json
    (found_cell (finds required located)).json rows (tt, tt))
