-- The lines of positions.
use Rattle.std.specs.Prelude.{ℕ, Bool, true, false, List, [], ◌++◌, codes, decimal, flat_map}
use Rattle.boot_verdict.specs.declared.steps.Located.{Located}
use Rattle.boot_verdict.specs.declared.steps.Position.{Position}
use Rattle.boot_verdict.specs.declared.steps.Position.TheVariants.{Reset, Event, Entry, Nowhere, Absent}
use Rattle.boot_verdict.specs.Names.{all_found}
use Rattle.answers.specs.ReportTexts.{row_line}

-- The words for a position; after `event` or `entry` comes its number.
abbrev pub position_words : Position → List ℕ
position_words Reset = codes "at reset"
position_words (Event number) = codes "after event "
position_words (Entry number) = codes "after entry "
position_words Nowhere = codes "nowhere"
position_words Absent = codes "absent"

-- The number of the event or entry in decimal; else nothing.
abbrev pub position_digits : Position → List ℕ
position_digits Reset = []
position_digits (Event number) = decimal number
position_digits (Entry number) = decimal number
position_digits Nowhere = []
position_digits Absent = []

-- The line of an expected register, as `sha256 10 after entry 98`.
abbrev pub located_text : Located → List ℕ
located_text row = row_line row.expected (position_words row.position) (position_digits row.position)

abbrev pub found_text : Bool → List ℕ
found_text true = codes "located\n"
found_text false = codes "not located\n"

-- A line for each expected register, and whether they are located: there is one, and each was found.
abbrev pub positions_text : List Located → List ℕ
positions_text located = flat_map located_text located ++ found_text (all_found located)
