-- The verdict on a measurement list alone and expected registers. How entries change the registers is defined in ima_list.
use Rattle.std.specs.Prelude.{◌≡◌, ℕ, ◌&&◌, ◌==◌, nat_lt, not, Bool, if◌then◌else◌, List, [], length, map, Option, Some, None, Ok}
use Rattle.std.specs.List.{list_all}
use Rattle.pcr_banks.specs.declared.alg.Alg.{Alg}
use Rattle.pcr_banks.specs.Names.{extended_by_all, register_count, reset_value}
use Rattle.pcr_values.specs.declared.expected.Expected.{Expected}
use Rattle.pcr_values.specs.declared.selection.BankRange.{BankRange}
use Rattle.ima_list.specs.Names.{AreGenuine, IsReading, ListEntry, digests_of}
use Rattle.boot_verdict.specs.declared.isolation.Strays.{Strays}
use Rattle.boot_verdict.specs.declared.list_verifier.ListReport.{ListReport}
use Rattle.boot_verdict.specs.declared.report.Row.{Row}
use Rattle.boot_verdict.specs.Isolation.{are_none, strays_of}
use Rattle.boot_verdict.specs.ListReplays.{AreTracked}
use Rattle.boot_verdict.specs.ListSources.{CameWhole}
use Rattle.boot_verdict.specs.Requirements.{expected_of_rows, is_complete}
use Rattle.boot_verdict.specs.Tracking.{After}
use Rattle.boot_verdict.specs.Verdicts.{is_match, row_state}

-- ---- registers

-- The value of a register of a bank after these entries alone: its reset value after a start from locality 0, extended by each of
-- its entries in order; none if there is no such register.
abbrev pub pcr_after_list : List ListEntry → Alg → ℕ → Option (List ℕ)
pcr_after_list entries alg register =
    if nat_lt register register_count then Some (extended_by_all alg (reset_value alg register 0) (digests_of entries alg register)) else None

-- The row of an expected register.
abbrev pub list_row_on : List ListEntry → Expected → Row
list_row_on entries expected =
    record { expected = expected; state = row_state expected (pcr_after_list entries expected.alg expected.register) }

-- ---- the verdict

pub record ListVerdict : Type 0 where
  pub entries : ℕ
  pub strays : Strays
  pub rows : List Row

-- The verdict on the entries of a list and expected registers.
abbrev pub list_verdict_on : List ListEntry → List Expected → ListVerdict
list_verdict_on entries expected =
    record { entries = length entries; strays = strays_of [] entries; rows = map (list_row_on entries) expected }

-- The verdict is 'match': the list has an entry, some register is expected, and each expected register has its value.
abbrev pub list_matches : ListVerdict → Bool
list_matches verdict = (not (verdict.entries == 0) && not (length verdict.rows == 0)) && list_all is_match verdict.rows

-- The verdict is 'match', each entry extends the list's register, and no register is missing.
abbrev pub required_list_matches : List BankRange → ListVerdict → Bool
required_list_matches ranges verdict = (list_matches verdict && are_none verdict.strays) && is_complete ranges (expected_of_rows verdict.rows)

-- The bytes are a list, each entry is genuine, and this is the verdict on it.
pub record IsListVerdict (list : List ℕ) (expected : List Expected) (verdict : ListVerdict) : Type 0 where
  pub entries : List ListEntry
  pub list_is : IsReading list (Ok entries)
  pub genuine : AreGenuine entries
  pub verdict_is : verdict ≡ list_verdict_on entries expected

-- All bytes that a source had left, at most `limit`, are such a list, and this is the verdict on it.
pub record IsListVerdictFrom (old new : Option (List ℕ)) (limit : ℕ) (expected : List Expected) (verdict : ListVerdict) : Type 0 where
  pub list : List ℕ
  pub came : CameWhole old new limit list
  pub verdict_is : IsListVerdict list expected verdict

-- The same, where `watch` has tracked its entries.
pub record WatchesList {W : Type 0} (IsAfter : After W) (start : W) (old new : Option (List ℕ)) (limit : ℕ) (expected : List Expected) (verdict : ListVerdict) (watch : W) : Type 0 where
  pub list : List ℕ
  pub came : CameWhole old new limit list
  pub verdict_is : IsListVerdict list expected verdict
  pub tracked : AreTracked IsAfter start verdict_is.entries watch

-- ---- what contracts see of a report

abbrev pub list_verdict_of : ListReport → ListVerdict
list_verdict_of report = record { entries = report.entries; strays = report.strays; rows = report.rows.items }
