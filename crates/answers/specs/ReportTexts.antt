-- The text of a report.
use Rattle.std.specs.Prelude.{ℕ, Bool, true, false, List, [], ◌++◌, codes, decimal, flat_map}
use Rattle.hex.specs.Hex.{encode_lower}
use Rattle.pcr_banks.specs.Names.{bytes_of, name_of}
use Rattle.pcr_values.specs.declared.expected.Expected.{Expected}
use Rattle.boot_verdict.specs.declared.report.Row.{Row}
use Rattle.boot_verdict.specs.declared.report.State.{State}
use Rattle.boot_verdict.specs.declared.report.State.TheVariants.{Match, Differ, Absent}
use Rattle.boot_verdict.specs.declared.report.Aggregate.{Aggregate}
use Rattle.boot_verdict.specs.Names.{Verdict, aggregate_word, matches}

-- Two lines: events and locality, and entries.
abbrev pub counts_text : ℕ → ℕ → ℕ → List ℕ
counts_text events locality entries =
    codes "events " ++ (decimal events ++ (codes " locality " ++ (decimal locality
    ++ (codes "\nentries " ++ (decimal entries ++ codes "\n")))))

-- The line of the boot aggregate.
abbrev pub aggregate_text : Aggregate → List ℕ
aggregate_text aggregate = codes "boot_aggregate " ++ (aggregate_word aggregate ++ codes "\n")

-- The word for a state; after `differ` comes the value.
abbrev pub state_word : State → List ℕ
state_word Match = codes "match"
state_word (Differ value) = codes "differ "
state_word Absent = codes "absent"

-- The value that differs, in lower case hexadecimal; else nothing.
abbrev pub state_digits : State → List ℕ
state_digits Match = []
state_digits (Differ value) = encode_lower (bytes_of value)
state_digits Absent = []

-- The start of an expected register's line: the algorithm's name and the register in decimal.
abbrev pub register_words : Expected → List ℕ
register_words expected = name_of expected.alg ++ (codes " " ++ (decimal expected.register ++ codes " "))

-- The line of an expected register: its start, a word and digits.
abbrev pub row_line : Expected → List ℕ → List ℕ → List ℕ
row_line expected word digits = register_words expected ++ (word ++ (digits ++ codes "\n"))

abbrev pub row_text : Row → List ℕ
row_text row = row_line row.expected (state_word row.state) (state_digits row.state)

abbrev pub verdict_text : Bool → List ℕ
verdict_text true = codes "verdict match\n"
verdict_text false = codes "verdict differ\n"

-- What comes after the counts: the line of the boot aggregate, one for each expected register, and whether it is a match.
abbrev pub outcome_text : Verdict → Bool → List ℕ
outcome_text verdict is_match = aggregate_text verdict.aggregate ++ (flat_map row_text verdict.rows ++ verdict_text is_match)

-- The report: its counts, and what comes after them.
abbrev pub report_text : Verdict → List ℕ
report_text verdict = counts_text verdict.events verdict.locality verdict.entries ++ outcome_text verdict (matches verdict)
