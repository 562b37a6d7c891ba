-- The cells of positions, where registers first have their expected values.
use Rattle.std.specs.Prelude.{ℕ, Bool, true, false, List, codes, Option, None, Some}
use Rattle.pcr_values.specs.declared.selection.BankRange.{BankRange}
use Rattle.boot_verdict.specs.declared.steps.Located.{Located}
use Rattle.boot_verdict.specs.declared.steps.Position.{Position}
use Rattle.boot_verdict.specs.declared.steps.Position.TheVariants.{Reset, Event, Entry, Nowhere, Absent}
use Rattle.boot_verdict.specs.Names.{all_found, required_found}
use Rattle.cells.specs.Values.{Member}
use Rattle.cells.specs.Cells.{Cell, beside, flag_member, number, text, word, word_member}
use Rattle.answers.specs.RowCells.{rows_cell}

-- At an event or entry: events count from 1, entries from 0.
abbrev pub numbered_cell : List ℕ → List ℕ → ℕ → Cell Member
numbered_cell word before n = beside (word_member (codes "place") word) (number before (codes "number") n)

abbrev pub position_cell : Position → Cell Member
position_cell Reset = beside (word_member (codes "place") (codes "reset")) (text (codes " at reset"))
position_cell (Event number) = numbered_cell (codes "event") (codes " after event ") number
position_cell (Entry number) = numbered_cell (codes "entry") (codes " after entry ") number
position_cell Nowhere = word (codes " ") (codes "place") (codes "nowhere")
position_cell Absent = word (codes " ") (codes "place") (codes "absent")

-- Whether some register is expected, each value was reached at some position, and no register is missing.
abbrev pub finds : Option (List BankRange) → List Located → Bool
finds None located = all_found located
finds (Some ranges) located = required_found ranges located

abbrev pub found_text : Bool → List ℕ
found_text true = codes "located\n"
found_text false = codes "not located\n"

abbrev pub found_cell : Bool → Cell Member
found_cell found = beside (flag_member (codes "located") found) (text (found_text found))

-- The positions, then the required registers that have none, and whether they are located.
abbrev pub positions_cell : Option (List BankRange) → List Located → Cell Member
positions_cell required located =
    beside (rows_cell (codes "place") (λ row. row.expected) (λ row. position_cell row.position) required located)
    (found_cell (finds required located))
