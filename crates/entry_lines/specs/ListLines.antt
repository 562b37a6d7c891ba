-- The lines of a list's entries.
use Rattle.std.specs.Prelude.{ℕ, List, [], ◌++◌, ◌≡◌, length, Option, None, Some, Ok, Err}
use Rattle.ima_list.specs.Names.{BeginsWith, IsReading, ListEntry, list_fault_entry}
use Rattle.ima_list.specs.Lines as texts
use Rattle.ima_list.specs.declared.fault.ListFault.{ListFault}
use Rattle.cells.specs.declared.writer.Form.{Form}
use Rattle.cells.specs.declared.writer.Form.TheVariants.{Json, Text}
use Rattle.cells.specs.ItemLines.{numbered_lines}
use Rattle.cells.specs.Values.{line_of}
use Rattle.entry_lines.specs.EntryJson.{entry_count_json, entry_json}

-- The line of the entry with this number, in this form; none, if no form is asked for.
abbrev pub entry_line : Option Form → ℕ → ListEntry → List ℕ
entry_line (Some Json) number entry = line_of (entry_json number entry)
entry_line (Some Text) number entry = texts.line_of entry
entry_line None number entry = []

-- The lines of entries of which the first has this number.
abbrev pub entry_lines_from : Option Form → ℕ → List ListEntry → List ℕ
entry_lines_from form number entries = numbered_lines (entry_line form) number entries

-- The lines of a list's entries; they count from 0.
abbrev pub entry_lines : Option Form → List ListEntry → List ℕ
entry_lines form entries = entry_lines_from form 0 entries

-- What comes after the line of a list's last entry: as JSON, how many they are.
abbrev pub last_line : Option Form → ℕ → List ℕ
last_line (Some Json) entries = line_of (entry_count_json entries)
last_line (Some Text) entries = []
last_line None entries = []

-- The lines of a list that was read to its end: those of its entries, and the last.
abbrev pub list_lines : Option Form → List ListEntry → List ℕ
list_lines form entries = entry_lines form entries ++ last_line form (length entries)

-- ---- what is shown of a list

-- The bytes are a list, and the text shows its entries.
pub record AreAllEntries (show : List ListEntry → List ℕ) (list text : List ℕ) : Type 0 where
  pub entries : List ListEntry
  pub reading : IsReading list (Ok entries)
  pub text_is : text ≡ show entries

-- The bytes are no list: the text shows the entries that they begin with, up to the one which their fault names.
pub record FailsAfterEntries {F : Type 0} (show : List ListEntry → List ℕ) (fault_of : ListFault → F) (list text : List ℕ) (fault : F) : Type 0 where
  pub entries : List ListEntry
  pub rest : List ℕ
  pub first : ListFault
  pub begins : BeginsWith list entries rest
  pub reading : IsReading list (Err first)
  pub number_is : list_fault_entry first ≡ Some (length entries)
  pub text_is : text ≡ show entries
  pub fault_is : fault ≡ fault_of first
