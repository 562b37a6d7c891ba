-- What the tasks show that ask no question: the registers and the events of a log, the entries of a list, the version.
use Rattle.std.specs.Prelude.{◌≡◌, ℕ, ◌≤◌, ◌⊎◌, ◌==◌, ◌||◌, not, Bool, true, false, List, ◌++◌, codes, filter, flat_map, length, Option, Some, Ok, Err, IsErr}
use Rattle.hex.specs.Hex.{decode_of}
use Rattle.ima_list.specs.declared.fault.ListFault.{ListFault}
use Rattle.ima_list.specs.Names.{BeginsWith, IsReading, ListEntry, line_of}
pub use Rattle.cells.specs.ItemLines.{numbered_lines, EndsWithFault}
pub use Rattle.entry_lines.specs.ListLines.{entry_lines, list_lines, AreAllEntries, FailsAfterEntries}
use Rattle.entry_lines.specs.SentEntries.{AreAllIn}
use Rattle.cells.specs.declared.writer.Form.{Form}
use Rattle.cells.specs.declared.writer.Form.TheVariants.{Json, Text}
use Rattle.agent_inputs.specs.declared.fault.RunFault.{RunFault}
use Rattle.agent_inputs.specs.declared.fault.RunFault.TheVariants as runs
use Rattle.agent_inputs.specs.Faults.{fault_of_list}
use Rattle.agent_inputs.specs.Loading.{Holds, HoldsTooMuch, Inputs, IsInputFault, IsReadFailure, IsTooLong, OfInput, input_limit, unknown}
use Rattle.judging.specs.Requests.{LogRegistersOf}
use Rattle.judging.specs.Inputs.{BytesOf}
use Rattle.rendering.specs.declared.summary.Summary.{Summary}
use Rattle.rendering.specs.Rendering.{GivesAnswer, IsRefusalOn}
use Rattle.rendering.specs.FaultTexts.{fault_line, fault_status, IsReportedAsJson}

-- The program and its version; and the logic that the proofs rest on, as the kit's `rt version` names it.
abbrev pub version_text : List ℕ
version_text = codes "ima-agent 1.0.0\nlogic dac8208d650f15bf\n"

-- ---- registers

-- Space, tab, carriage return or line feed.
abbrev pub is_white_space : ℕ → Bool
is_white_space byte = byte == 32 || byte == 9 || byte == 13 || byte == 10

-- A text without its white space.
abbrev pub without_white_space : List ℕ → List ℕ
without_white_space text = filter (λ byte. not (is_white_space byte)) text

-- The text is these bytes in hexadecimal.
abbrev pub Spells : List ℕ → List ℕ → Type 0
Spells text bytes = decode_of (without_white_space text) ≡ Ok bytes

-- The text is a firmware event log in hexadecimal, and what is shown is the answer to what is asked of its bytes, in this form.
abbrev pub ShowsHexadecimal : Form → List ℕ → List ℕ → ℕ → Type 0
ShowsHexadecimal form text shown status =
    (bytes : List ℕ) × (state : List ℕ) × (summary : Summary) × Spells text bytes
    × GivesAnswer unknown (LogRegistersOf (BytesOf bytes)) form shown status state summary

-- Why no registers are shown: the text is not hexadecimal; or there is no answer to what is asked of its bytes; or memory ran out.
abbrev pub IsRefusedFor : List ℕ → RunFault → Type 0
IsRefusedFor text fault =
    ((fault ≡ runs.NotHex) × IsErr (decode_of (without_white_space text)))
    ⊎ ((bytes : List ℕ) × Spells text bytes × IsRefusalOn unknown (LogRegistersOf (BytesOf bytes)) fault) ⊎ (fault ≡ runs.Memory)

-- ---- events and entries as text

-- The bytes are no list, and the fault is that of their reading.
abbrev pub IsNoListFor : List ℕ → RunFault → Type 0
IsNoListFor list fault = (first : ListFault) × IsReading list (Err first) × (fault ≡ fault_of_list first)

-- The line of a fault in this form, and its status.
abbrev pub IsReported : Form → RunFault → List ℕ → ℕ → Type 0
IsReported Text fault text status = (text ≡ fault_line fault) × (status ≡ fault_status fault)
IsReported Json fault text status = IsReportedAsJson fault text status

-- All is shown, with this status; or what comes before a fault, and then the line of the fault, with its status.
abbrev pub ShowsToFault : ℕ → (List ℕ → Type 0) → (List ℕ → RunFault → Type 0) → (RunFault → List ℕ → ℕ → Type 0) → List ℕ → ℕ → Type 0
ShowsToFault done AreAll Fails IsLine shown status = (AreAll shown × (status ≡ done)) ⊎ EndsWithFault Fails IsLine shown status

-- ---- entries

-- What can be read of the bytes as a list is shown in this form; as JSON, at the end of a list, also how many entries it has.
abbrev pub ShowsEntries : Form → List ℕ → List ℕ → ℕ → Type 0
ShowsEntries form list shown status =
    ShowsToFault 0 (AreAllEntries (list_lines (Some form)) list) (FailsAfterEntries (entry_lines (Some form)) fault_of_list list)
    (IsReported form) shown status

-- A list is read through for a fault before its entries are shown: as text, unless those before one are asked for.
abbrev pub reads_first : Form → Bool → Bool
reads_first Text partial = not partial
reads_first Json partial = false

-- Why no more entries of the file of this name are shown, of which the bytes `came` were read. It could not be opened or read, or it is
-- longer than an input may be and its first bytes came, as many as one may have: then these are all entries of what came, of which none was refused (how much of a file
-- came before a read failed, only `SendsEntries` of entry_lines says). Or memory ran out.
abbrev pub EndsAfterEntries : Inputs → List ℕ → List ℕ → List ListEntry → RunFault → Type 0
EndsAfterEntries inputs name came entries fault =
    (IsReadFailure inputs (Some name) fault × AreAllIn came entries)
    ⊎ (IsTooLong name fault × HoldsTooMuch inputs (Some name) × (length came ≡ input_limit) × AreAllIn came entries)
    ⊎ (fault ≡ runs.Memory)

-- The file of this name begins with the bytes `came`, and these with entries, whose lines in this form are the text, and this is why there are no
-- more.
pub record BreaksOffAfterEntries (form : Option Form) (inputs : Inputs) (name text : List ℕ) (fault : RunFault) : Type 0 where
  pub came : List ℕ
  pub more : List ℕ
  pub entries : List ListEntry
  pub rest : List ℕ
  pub held : Holds inputs (Some name) (came ++ more)
  pub begins : BeginsWith came entries rest
  pub ends : EndsAfterEntries inputs name came entries fault
  pub text_is : text ≡ entry_lines form entries

-- ---- what is shown while its input is read

-- The file of this name is a list, and the text is the lines of its entries in this form, and the last.
abbrev pub AreAllInFile : Option Form → Inputs → List ℕ → List ℕ → Type 0
AreAllInFile form inputs name text = OfInput inputs (Some name) (λ list. AreAllEntries (list_lines form) list text)

-- Why no more of the list in the file of this name is shown than this text: it fails, or it comes no further.
abbrev pub StopsInFile : Option Form → Inputs → List ℕ → List ℕ → RunFault → Type 0
StopsInFile form inputs name text fault =
    OfInput inputs (Some name) (λ list. FailsAfterEntries (entry_lines form) fault_of_list list text fault)
    ⊎ BreaksOffAfterEntries form inputs name text fault

-- The list in the file of this name is shown in this form while it is read, as far as it comes.
abbrev pub ShowsEntriesOf : Form → Inputs → List ℕ → List ℕ → ℕ → Type 0
ShowsEntriesOf form inputs name shown status =
    ShowsToFault 0 (AreAllInFile (Some form) inputs name) (StopsInFile (Some form) inputs name) (IsReported form) shown status

-- ---- a list that is read through before its lines are sent, or not

-- The file of this name is a list, no longer than an input may be.
abbrev pub IsWholeList : Inputs → List ℕ → Type 0
IsWholeList inputs name =
    OfInput inputs (Some name) (λ list. (length list ≤ input_limit) × ((entries : List ListEntry) × IsReading list (Ok entries)))

-- Why no line of the list in the file of this name is shown: it was not read, or it is none.
abbrev pub IsNoneInFile : Inputs → List ℕ → RunFault → Type 0
IsNoneInFile inputs name fault = IsInputFault inputs (Some name) fault ⊎ OfInput inputs (Some name) (λ list. IsNoListFor list fault)

-- It was read through as a list, and then shown as text while it was read again, as far as it came; or its fault is shown, alone.
abbrev pub ShowsSoundList : Inputs → List ℕ → List ℕ → ℕ → Type 0
ShowsSoundList inputs name shown status =
    (IsWholeList inputs name × ShowsEntriesOf Text inputs name shown status)
    ⊎ ((fault : RunFault) × IsNoneInFile inputs name fault × IsReported Text fault shown status)

-- The list in the file of this name is shown in this form: all of it as text, if it is read through before; if not, as far as it can be read.
abbrev pub ShowsListOf : Bool → Form → Inputs → List ℕ → List ℕ → ℕ → Type 0
ShowsListOf true form inputs name shown status =
    OfInput inputs (Some name) (λ bytes. AreAllEntries (flat_map line_of) bytes shown) × (status ≡ 0)
ShowsListOf false form inputs name shown status = OfInput inputs (Some name) (λ bytes. ShowsEntries form bytes shown status)

-- The fault is shown alone, if the list is read through before. If not, what comes before it is shown too.
abbrev pub IsFaultOfList : Bool → Inputs → List ℕ → RunFault → Type 0
IsFaultOfList true inputs name fault = IsNoneInFile inputs name fault
IsFaultOfList false inputs name fault = ⊥

-- What is shown of a list that comes no further: one that is read through before had no fault then.
abbrev pub IsListBrokenOff : Bool → Form → Inputs → List ℕ → List ℕ → ℕ → Type 0
IsListBrokenOff true form inputs name text status =
    IsWholeList inputs name × EndsWithFault (StopsInFile (Some form) inputs name) (IsReported form) text status
IsListBrokenOff false form inputs name text status =
    EndsWithFault (BreaksOffAfterEntries (Some form) inputs name) (IsReported form) text status
