-- Lines that are given by pieces, each of as many whole lines as there is room for.
use Rattle.std.specs.Prelude.{◌≡◌, ℕ, ◌+◌, ◌<◌, ◌≤◌, ◌⊎◌, ◌&&◌, Bool, nat_le, List, [], ◌∷◌, ◌++◌, length, Option, Some, None, Result, Ok, Err, flat_map}
use Rattle.agent_inputs.specs.declared.fault.RunFault.{RunFault}
use Rattle.agent_inputs.specs.declared.fault.RunFault.TheVariants.{Memory}
use Rattle.line_chunks.specs.declared.piece.PieceEnd.{PieceEnd}
use Rattle.line_chunks.specs.declared.piece.PieceEnd.TheVariants.{Last, Longer, More}
use Rattle.line_chunks.specs.declared.piece.Piece.{Piece}
use Rattle.line_chunks.specs.declared.piece.LineOffset.{LineOffset}
use Rattle.agent_inputs.specs.Faults.{fault_of_list, fault_of_log}
use Rattle.cells.specs.declared.writer.Form.{Form}
use Rattle.cells.specs.declared.writer.Form.TheVariants.{Json, Text}
use Rattle.ima_list.specs.Names.{BeginsWith, IsReading, ListEntry, line_of}
use Rattle.entry_lines.specs.EntryJson.{entry_json}
use Rattle.cells.specs.Values as json
use Rattle.entry_lines.specs.ListLines as shown
use Rattle.event_lines.specs.LogLines as logged
use Rattle.boot_log.specs.declared.header.DeclaredAlgorithm.{DeclaredAlgorithm}
use Rattle.boot_log.specs.Names.{LogEvent, specification_in}
use Rattle.boot_log.specs.Spelling as logs
use Rattle.measured_data.specs.declared.confirmed.Pcr.{Pcr}
use Rattle.event_lines.specs.EventJson.{header_json, event_json}
use Rattle.cells.specs.declared.writer.Form.TheVariants as events
use Rattle.event_lines.specs.SentEvents as sent

-- Where the first line begins.
abbrev pub start : LineOffset
start = record { offset = 0; number = 0 }

-- So many entries or events may be before the position, in as many bytes, each of which takes one at least.
abbrev pub is_within : LineOffset → ℕ → Bool
is_within position size = nat_le position.number position.offset && nat_le position.offset size

abbrev pub IsWithin : LineOffset → ℕ → Type 0
IsWithin position size = (position.number ≤ position.offset) × (position.offset ≤ size)

-- ---- lines

-- Lines one after another.
pub record Series : Type 1 where
  -- the lines before this position have this text
  pub AreBefore : LineOffset → List ℕ → Type 0
  -- after lines with this text comes this line
  pub HasLine : List ℕ → List ℕ → Type 0
  -- all lines have this text
  pub AreAll : List ℕ → Type 0
  -- after lines with this text comes this fault
  pub FailsAfter : List ℕ → RunFault → Type 0

-- The bytes begin with items whose lines are this text: as many as the number of the position, at whose offset they end. They are no more
-- than the bytes that they take.
pub record AreItemsBefore {A : Type 0} (Begin : List A → List ℕ → Type 0) (show : List A → List ℕ) (bytes : List ℕ) (position : LineOffset)
    (text : List ℕ) : Type 0 where
  pub items : List A
  pub rest : List ℕ
  pub begins : Begin items rest
  pub number_is : position.number ≡ length items
  pub offset_is : position.offset + length rest ≡ length bytes
  pub few : position.number ≤ position.offset
  pub text_is : text ≡ show items

-- The bytes begin with items whose lines are this text, and after them comes another, which has this line.
pub record HasItemLine {A : Type 0} (Begin : List A → List ℕ → Type 0) (show : List A → List ℕ) (line_of : ℕ → A → List ℕ) (text line : List ℕ)
    : Type 0 where
  pub items : List A
  pub item : A
  pub rest : List ℕ
  pub begins : Begin (items ++ item ∷ []) rest
  pub text_is : text ≡ show items
  pub line_is : line ≡ line_of (length items) item

-- Whatever comes before the position, the line is the next, and it ends at the position after it.
abbrev pub IsNextLine : Series → LineOffset → LineOffset → List ℕ → Type 0
IsNextLine lines position after line =
    (before : List ℕ) → lines.AreBefore position before → lines.HasLine before line × lines.AreBefore after (before ++ line)

-- The line at the position was appended; or nothing was, since there is none, or it has a fault.
abbrev pub Appends : Series → ℕ → LineOffset → List ℕ → List ℕ → Result (Option LineOffset) RunFault → Type 0
Appends lines size position old new (Ok (Some after)) =
    (position.offset < after.offset) × IsWithin after size × ((line : List ℕ) × (new ≡ old ++ line) × IsNextLine lines position after line)
Appends lines size position old new (Ok None) =
    (new ≡ old) × ((before : List ℕ) → lines.AreBefore position before → lines.AreAll before)
Appends lines size position old new (Err fault) =
    (new ≡ old) × ((fault ≡ Memory) ⊎ ((before : List ℕ) → lines.AreBefore position before → lines.FailsAfter before fault))

-- ---- pieces

-- Why a piece with this text ends, after lines with the text `before`. `Last`: they are all lines. `More`: it has some, and the next line has
-- no more room, or a fault comes next. `Longer`: it has none, and the next line, of this size, has no room.
abbrev pub EndsSo : Series → ℕ → List ℕ → List ℕ → PieceEnd → Type 0
EndsSo lines capacity before text Last = lines.AreAll (before ++ text)
EndsSo lines capacity before text More =
    (0 < length text)
    × (((line : List ℕ) × lines.HasLine (before ++ text) line × (capacity < length text + length line))
    ⊎ ((fault : RunFault) × lines.FailsAfter (before ++ text) fault))
EndsSo lines capacity before text (Longer size) =
    (text ≡ []) × ((line : List ℕ) × lines.HasLine before line × (size ≡ length line) × (capacity < size))

-- The piece has the lines that come after lines with the text `before`: as many as there is room for.
pub record IsPiece (lines : Series) (capacity : ℕ) (before : List ℕ) (piece : Piece) : Type 0 where
  pub next : lines.AreBefore piece.next (before ++ piece.text.items)
  pub ends : EndsSo lines capacity before piece.text.items piece.end

-- The piece is given from this position, with some room.
abbrev pub IsGiven : Series → LineOffset → Piece → Type 0
IsGiven lines position piece = (capacity : ℕ) × ((before : List ℕ) → lines.AreBefore position before → IsPiece lines capacity before piece)

-- Pieces one after another, each from the position that the one before it gives.
abbrev pub AreInTurn : Series → LineOffset → List Piece → LineOffset → Type 0
AreInTurn lines position [] end = end ≡ position
AreInTurn lines position (piece ∷ pieces) end = IsGiven lines position piece × AreInTurn lines piece.next pieces end

-- The fault has this line, and this status after it.
abbrev pub IsLineOf : RunFault → List ℕ → ℕ → RunFault → List ℕ → ℕ → Type 0
IsLineOf fault line status other text answer = (other ≡ fault) × (text ≡ line) × (answer ≡ status)

-- ---- the entries of a list

-- How far the positions in a list go: to its end; as JSON one byte further, to where the line of how many entries it has was given too.
abbrev pub end_in : Form → List ℕ → ℕ
end_in Text list = length list
end_in Json list = length list + 1

-- The line of the entry with this number, in this form.
abbrev pub line_in : Form → ℕ → ListEntry → List ℕ
line_in Text number entry = line_of entry
line_in Json number entry = json.line_of (entry_json number entry)

-- The lines of a list's entries, in this form.
abbrev pub lines_in : Form → List ListEntry → List ℕ
lines_in Text entries = flat_map line_of entries
lines_in Json entries = shown.entry_lines (Some Json) entries

-- The lines of a whole list, in this form: as JSON also that of how many entries it has.
abbrev pub whole_in : Form → List ListEntry → List ℕ
whole_in Text entries = flat_map line_of entries
whole_in Json entries = shown.list_lines (Some Json) entries

-- The text is all lines of the list as JSON, and the position is behind the last of them.
pub record AreCounted (form : Form) (list : List ℕ) (position : LineOffset) (text : List ℕ) : Type 0 where
  pub form_is : form ≡ Json
  pub entries : List ListEntry
  pub reading : IsReading list (Ok entries)
  pub number_is : position.number ≡ length entries
  pub offset_is : position.offset ≡ length list + 1
  pub few : position.number ≤ position.offset
  pub text_is : text ≡ shown.list_lines (Some Json) entries

-- The list begins with entries whose lines are this text, up to the position; or the text is all of its lines as JSON.
abbrev pub AreEntriesBefore : Form → List ℕ → LineOffset → List ℕ → Type 0
AreEntriesBefore form list position text =
    AreItemsBefore (BeginsWith list) (lines_in form) list position text ⊎ AreCounted form list position text

-- The bytes are a list whose entries have this text as JSON, and the line says how many they are.
pub record HasCountLine (form : Form) (list text line : List ℕ) : Type 0 where
  pub form_is : form ≡ Json
  pub entries : List ListEntry
  pub reading : IsReading list (Ok entries)
  pub text_is : text ≡ shown.entry_lines (Some Json) entries
  pub line_is : line ≡ shown.last_line (Some Json) (length entries)

-- After entries whose lines are this text comes another, which has this line; or they are all, and this is the line of how many they are.
abbrev pub HasEntryLine : Form → List ℕ → List ℕ → List ℕ → Type 0
HasEntryLine form list text line =
    HasItemLine (BeginsWith list) (lines_in form) (line_in form) text line ⊎ HasCountLine form list text line

-- The bytes are no list: the text is the lines of all entries that they begin with, and after these they have this fault.
abbrev pub FailsAfterEntries : Form → List ℕ → List ℕ → RunFault → Type 0
FailsAfterEntries form list text fault = shown.FailsAfterEntries (lines_in form) fault_of_list list text fault

-- The lines of a list one after another.
abbrev pub entries_of : Form → List ℕ → Series
entries_of form list = record {
  AreBefore = AreEntriesBefore form list;
  HasLine = HasEntryLine form list;
  AreAll = shown.AreAllEntries (whole_in form) list;
  FailsAfter = FailsAfterEntries form list;
}

-- The piece has the lines of the next entries of the list, as many as there is room for.
abbrev pub IsEntryPiece : Form → List ℕ → ℕ → List ℕ → Piece → Type 0
IsEntryPiece form list capacity before piece = IsPiece (entries_of form list) capacity before piece

-- ---- the algorithms and the events of a log

-- The lines of a log, as JSON, with what the registers that match confirm, if registers are compared.
abbrev pub log_lines : Option (List Pcr) → List ℕ → List DeclaredAlgorithm → List LogEvent → List ℕ
log_lines matched log table read = sent.log_lines events.Json matched log table read

-- The log begins with a header and events whose lines are this text, up to the position; or nothing comes before it.
abbrev pub AreEventsBefore : Option (List Pcr) → List ℕ → LineOffset → List ℕ → Type 0
AreEventsBefore matched log position text =
    ((position ≡ start) × (text ≡ []))
    ⊎ ((0 < position.offset)
    × ((table : List DeclaredAlgorithm) × AreItemsBefore (logs.BeginsWith log table) (log_lines matched log table) log position text))

-- The line is the first, that of what the header declares; or the log begins with a header and events whose lines are this text,
-- and after them comes another, which has this line.
abbrev pub HasEventLine : Option (List Pcr) → List ℕ → List ℕ → List ℕ → Type 0
HasEventLine matched log text line =
    ((text ≡ []) × ((table : List DeclaredAlgorithm) × (rest : List ℕ) × logs.BeginsWith log table [] rest × (line ≡ json.line_of (header_json (specification_in log) table))))
    ⊎ ((table : List DeclaredAlgorithm)
    × HasItemLine (logs.BeginsWith log table) (log_lines matched log table) (λ number event. json.line_of (event_json matched (number + 1) event)) text
    line)

-- The bytes are no log: the text is the lines of the header and of the events after it, and after these they have this fault.
abbrev pub FailsAfterEvents : Option (List Pcr) → List ℕ → List ℕ → RunFault → Type 0
FailsAfterEvents matched log text fault = logged.FailsAfterEvents (log_lines matched log) fault_of_log log text fault

-- The lines of a log one after another.
abbrev pub events_of : Option (List Pcr) → List ℕ → Series
events_of matched log = record {
  AreBefore = AreEventsBefore matched log;
  HasLine = HasEventLine matched log;
  AreAll = logged.AreAllEvents (log_lines matched log) log;
  FailsAfter = FailsAfterEvents matched log;
}

-- The piece has the lines of the next events of the log, as many as there is room for.
abbrev pub IsEventPiece : Option (List Pcr) → List ℕ → ℕ → List ℕ → Piece → Type 0
IsEventPiece matched log capacity before piece = IsPiece (events_of matched log) capacity before piece
