-- The texts that are sent without memory are those of the cells.
use Rattle.std.proofs.Common.{◌≡◌, ℕ, Bool, true, false, List, [], ◌∷◌, ◌++◌, Option, Some, None, refl, sym, ap, ◌∙◌, append_assoc, append-nil, codes, decimal}
use Rattle.std.specs.Prelude.{flat_map, ◌&&◌, if◌then◌else◌}
use Rattle.hex.specs.Hex.{encode_lower}
use Rattle.pcr_banks.specs.declared.alg.Alg.{Alg}
use Rattle.pcr_banks.specs.declared.banks.Banks.{Banks}
use Rattle.pcr_banks.specs.Names.{bytes_of, name_of, value_at}
use Rattle.pcr_values.specs.declared.expected.Expected.{Expected}
use Rattle.pcr_values.specs.Names.{change_line, differs, every_register, expected_text, register_line, registers_text}
use Rattle.boot_verdict.specs.declared.steps.Located.{Located}
use Rattle.boot_verdict.specs.declared.steps.Position.{Position}
use Rattle.boot_verdict.specs.declared.steps.Position.TheVariants as positions
use Rattle.boot_verdict.specs.declared.report.State.{State}
use Rattle.boot_verdict.specs.declared.report.State.TheVariants.{Match, Differ, Absent}
use Rattle.boot_verdict.specs.Names.{Verdict, all_found}
use Rattle.known_files.specs.declared.unknown.UnknownFiles.{UnknownFiles}
use Rattle.known_files.specs.Unknown.{has_no_unknown}
use Rattle.tpm_keys.specs.declared.kinds.KeyPart.{KeyPart}
use Rattle.tpm_keys.specs.declared.kinds.KeyPart.TheVariants as parts
use Rattle.tpm_keys.specs.declared.report.KeyReport.{KeyReport}
use Rattle.tpm_keys.specs.Reports.{key_text}
use Rattle.cells.specs.Values.{Member}
use Rattle.cells.specs.Cells.{Cell, beside, each, if_some, list_at, object}
use Rattle.answers.specs.declared.row_order.RowOrder.TheVariants.{Given}
use Rattle.answers.specs.KeyCells.{key_cell}
use Rattle.answers.specs.PositionCells.{found_cell, position_cell, positions_cell}
use Rattle.answers.specs.RegisterCells.{changed_value, expected_cell, registers_cell, value_cell}
use Rattle.answers.specs.ReportCells.{outcome_cell, report_cell, state_cell, verdict_cell}
use Rattle.answers.specs.RowCells.{row_cell, rows_cell}
use Rattle.answers.specs.PositionTexts.{found_text, located_text, position_digits, position_words, positions_text}
use Rattle.answers.specs.ReportTexts.{aggregate_text, counts_text, outcome_text, row_line, row_text, state_digits, state_word, verdict_text}

-- What two functions give that agree.
same_of_each : {X A : Type 0} (f g : X → List A) → ((x : X) → f x ≡ g x) → (xs : List X) → flat_map f xs ≡ flat_map g xs
same_of_each f g same [] = refl
same_of_each {A = A} f g same (x ∷ xs) =
    ap (λ (t : List A). t ++ flat_map f xs) (same x) ∙ ap (λ (t : List A). g x ++ t) (same_of_each f g same xs)

-- ---- rows

-- Two words, and what comes after a space.
spaced : (name digits rest : List ℕ) → (name ++ 32 ∷ digits) ++ 32 ∷ rest ≡ (name ++ 32 ∷ (digits ++ 32 ∷ [])) ++ rest
spaced name digits rest =
    append_assoc name (32 ∷ digits) (32 ∷ rest)
    ∙ ap (λ (t : List ℕ). name ++ 32 ∷ t) (sym (append_assoc digits (32 ∷ []) rest))
    ∙ sym (append_assoc name (32 ∷ (digits ++ 32 ∷ [])) rest)

state_line : (expected : Expected) (state : State)
    → (row_cell expected (state_cell state)).text ≡ row_line expected (state_word state) (state_digits state)
unfolding beside
state_line expected Match = spaced (name_of expected.alg) (decimal expected.register) (codes "match\n")
state_line expected (Differ value) =
    spaced (name_of expected.alg) (decimal expected.register) (codes "differ " ++ (encode_lower (bytes_of value) ++ codes "\n"))
state_line expected Absent = spaced (name_of expected.alg) (decimal expected.register) (codes "absent\n")

position_line : (expected : Expected) (position : Position)
    → (row_cell expected (position_cell position)).text ≡ row_line expected (position_words position) (position_digits position)
unfolding beside
position_line expected positions.Reset = spaced (name_of expected.alg) (decimal expected.register) (codes "at reset\n")
position_line expected (positions.Event number) =
    spaced (name_of expected.alg) (decimal expected.register) (codes "after event " ++ (decimal number ++ codes "\n"))
position_line expected (positions.Entry number) =
    spaced (name_of expected.alg) (decimal expected.register) (codes "after entry " ++ (decimal number ++ codes "\n"))
position_line expected positions.Nowhere = spaced (name_of expected.alg) (decimal expected.register) (codes "nowhere\n")
position_line expected positions.Absent = spaced (name_of expected.alg) (decimal expected.register) (codes "absent\n")

-- The lines of rows.
plain_rows : {A : Type 0} (name : List ℕ) (expected_of : A → Expected) (said_of : A → Cell Member) (line_of : A → List ℕ)
    → ((row : A) → (row_cell (expected_of row) (said_of row)).text ≡ line_of row) → (rows : List A)
    → (rows_cell name expected_of said_of None rows).text ≡ flat_map line_of rows
unfolding beside each list_at object
plain_rows name expected_of said_of line_of same rows =
    append-nil (flat_map (λ row. (row_cell (expected_of row) (said_of row)).text) rows) ∙ same_of_each _ _ same rows

-- ---- a report

verdict_line : (unknown : Option UnknownFiles) (is_match is : Bool) → has_no_unknown unknown && is_match ≡ is
    → (verdict_cell unknown is_match).text ≡ verdict_text is
unfolding beside
verdict_line unknown is_match true e = rw e refl
verdict_line unknown is_match false e = rw e refl

-- What comes after the counts, from the texts of its parts.
plain_outcome : (is_match : Bool) (verdict : Verdict) → (outcome_cell Given None None is_match verdict).text ≡ outcome_text verdict is_match
unfolding beside
plain_outcome is_match verdict =
    ap (λ (t : List ℕ). aggregate_text verdict.aggregate ++ (t ++ (verdict_cell None is_match).text))
    (plain_rows (codes "state") (λ row. row.expected) (λ row. state_cell row.state) row_text (λ row. state_line row.expected row.state) verdict.rows)
    ∙ ap (λ (t : List ℕ). aggregate_text verdict.aggregate ++ (flat_map row_text verdict.rows ++ t)) (verdict_line None is_match is_match refl)

pub plain_report : (is_match : Bool) (verdict : Verdict) → (report_cell Given None None is_match verdict).text
    ≡ counts_text verdict.events verdict.locality verdict.entries ++ outcome_text verdict is_match
unfolding beside
plain_report is_match verdict =
    ap (λ (t : List ℕ). counts_text verdict.events verdict.locality verdict.entries ++ t) (plain_outcome is_match verdict)

-- ---- positions

found_line : (found : Bool) → (found_cell found).text ≡ found_text found
unfolding beside
found_line true = refl
found_line false = refl

pub plain_positions : (located : List Located) → (positions_cell None located).text ≡ positions_text located
unfolding beside
plain_positions located =
    ap (λ (t : List ℕ). t ++ (found_cell (all_found located)).text)
    (plain_rows (codes "place") (λ row. row.expected) (λ row. position_cell row.position) located_text
    (λ row. position_line row.expected row.position) located)
    ∙ ap (λ (t : List ℕ). flat_map located_text located ++ t) (found_line (all_found located))

-- ---- registers

value_line : (alg : Alg) (register : ℕ) (value : List ℕ) → (value_cell alg register value).text ≡ register_line alg register value
unfolding beside object
value_line alg register value = append_assoc (name_of alg) (32 ∷ decimal register) (32 ∷ (encode_lower value ++ codes "\n"))

line_if : (is : Bool) (alg : Alg) (register : ℕ) (value : List ℕ)
    → (if_some (if is then Some value else None) (value_cell alg register)).text ≡ if is then register_line alg register value else []
line_if true alg register value = value_line alg register value
line_if false alg register value = refl

changed_line : (alg : Alg) (register : ℕ) (before now : Option (List ℕ))
    → (if_some (changed_value before now) (value_cell alg register)).text ≡ change_line alg register before now
changed_line alg register before None = refl
changed_line alg register before (Some value) = line_if (differs before value) alg register value

pub registers_lines : (now start : Banks) → (registers_cell now start).text ≡ registers_text now start
unfolding each list_at
registers_lines now start =
    same_of_each _ _
    (λ register. changed_line register.0 register.1 (value_at start register.0 register.1) (value_at now register.0 register.1)) every_register

pub expected_lines : (expected : List Expected) → (expected_cell expected).text ≡ expected_text expected
unfolding each list_at
expected_lines expected = same_of_each _ _ (λ e. value_line e.alg e.register (bytes_of e.value)) expected

-- ---- keys

all_lines : (hash : Option Alg) (report : KeyReport) → report.scheme.hash ≡ hash → (key_cell parts.All report).text ≡ key_text parts.All report
unfolding beside
all_lines None report is = rw is refl
all_lines (Some alg) report is = rw is refl

pub key_lines : (part : KeyPart) (report : KeyReport) → (key_cell part report).text ≡ key_text part report
unfolding beside
key_lines parts.All report = all_lines report.scheme.hash report refl
key_lines parts.Name report = refl
key_lines parts.Pem report = refl
