-- The entries of a list that comes from a source, whose lines are sent as they come.
use Rattle.std.specs.Prelude.{◌≡◌, ◌⊎◌, ℕ, ◌<◌, List, [], length, Option, Some, Result, Ok, Err, ◌+◌, ◌≤◌, ◌++◌, IfOk, OnOk}
use Rattle.std.specs.Io.KnownBytes.{IsAtEnd}
use Rattle.byte_streams.specs.declared.piece_reader.ReadFault.{ReadFault}
use Rattle.byte_streams.specs.declared.piece_reader.ReadFault.TheVariants as reads
use Rattle.byte_streams.specs.Streams.{SinkState, Sends, failures_after}
use Rattle.ima_list.specs.declared.fault.ListFault.TheVariants as lists
use Rattle.ima_list.specs.Names.{AreComplete, BeginsWith, FailsFor, IsReading, ListEntry, list_fault_entry}
use Rattle.boot_verdict.specs.Names.{CameFrom}
use Rattle.entry_lines.specs.declared.entry_lines.EntriesFault.{EntriesFault}
use Rattle.entry_lines.specs.declared.entry_lines.EntriesFault.TheVariants as faults
use Rattle.cells.specs.declared.writer.Form.{Form}
use Rattle.entry_lines.specs.ListLines.{entry_lines, entry_lines_from, last_line}
use Rattle.entry_lines.specs.declared.entry_lines.EntryLines.{EntryLines}

-- The fault of reading one piece.
abbrev pub fault_of_reading : ReadFault → EntriesFault
fault_of_reading reads.Source = faults.Source
fault_of_reading reads.Memory = faults.Memory

-- What the sink says of a call with this result: it failed only at `Sink`.
abbrev pub as_sent : Result (Unit {0}) EntriesFault → Result (Unit {0}) EntriesFault
as_sent (Err faults.Sink) = Err faults.Sink
as_sent result = Ok tt

-- The source's count of failures after the call: one more after `Source`, else unchanged.
abbrev pub failures_after_entries : {A : Type 0} → Result A EntriesFault → ℕ → ℕ
failures_after_entries (Err faults.Source) failures = failures_after {A = ℕ} (Err faults.Source) failures
failures_after_entries result failures = failures

-- These are all entries of the bytes, which read as a list or as one that is cut short.
abbrev pub AreAllIn : List ℕ → List ListEntry → Type 0
AreAllIn list entries = IsReading list (Ok entries) ⊎ IsReading list (Err (lists.Truncated (length entries)))

-- Why no more entries are sent after these, of a list that came, where `over` came after its first `limit` bytes. `Ok`: the source has
-- no more, and these are the list. `Truncated`: the same, and the list is cut short after them. Another fault of the list: what came
-- has it after them, whatever follows. `Source`: the source failed after them. `TooLong`: more than `limit` bytes came, and these are
-- all entries of the first `limit`. Or the sink failed, or memory ran out.
abbrev pub EndsAfter : Option (List ℕ) → ℕ → List ℕ → List ℕ → List ListEntry → Result (Unit {0}) EntriesFault → Type 0
EndsAfter left limit list over entries (Ok tt) = (over ≡ []) × IsAtEnd left × IsReading list (Ok entries)
EndsAfter left limit list over entries (Err (faults.List (lists.Truncated entry))) =
    (over ≡ []) × IsAtEnd left × IsReading list (Err (lists.Truncated entry)) × (entry ≡ length entries)
EndsAfter left limit list over entries (Err (faults.List fault)) = FailsFor list fault × (list_fault_entry fault ≡ Some (length entries))
EndsAfter left limit list over entries (Err faults.Source) = (over ≡ []) × AreAllIn list entries
EndsAfter left limit list over entries (Err faults.TooLong) = (length list ≡ limit) × (0 < length over) × AreAllIn list entries
EndsAfter left limit list over entries (Err fault) = Unit {0}

-- What is sent after the lines of these entries: the last line, after `Ok`, and where the sink failed at that line at the end of the list.
-- Nothing after another fault.
abbrev pub IsSentLast : Option Form → Option (List ℕ) → List ℕ → List ℕ → List ListEntry → Result (Unit {0}) EntriesFault → List ℕ → Type 0
IsSentLast form left list over entries (Ok tt) last = last ≡ last_line form (length entries)
IsSentLast form left list over entries (Err faults.Sink) last =
    (last ≡ []) ⊎ ((last ≡ last_line form (length entries)) × (over ≡ []) × IsAtEnd left × IsReading list (Ok entries))
IsSentLast form left list over entries (Err fault) last = last ≡ []

-- The bytes `list` came from a source, at most `limit`, and then `over`. They begin with these entries, whose lines were sent in this form, and
-- after them `last`: all of it, and only a part if the sink failed.
pub record SendsEntries (form : Option Form) (old new : Option (List ℕ)) (limit : ℕ) (sink_old sink_new : SinkState)
    (result : Result (Unit {0}) EntriesFault) : Type 0 where
  pub list : List ℕ
  pub over : List ℕ
  pub entries : List ListEntry
  pub rest : List ℕ
  pub came : CameFrom old new limit list over
  pub begins : BeginsWith list entries rest
  pub last : List ℕ
  pub last_is : IsSentLast form new list over entries result last
  pub sends : Sends sink_old sink_new (as_sent result) (entry_lines form entries ++ last)
  pub ends : EndsAfter new limit list over entries result

-- The last line was sent, after so many entries; or only a part, if the sink failed; or nothing, since memory ran out.
abbrev pub SendsLast : Option Form → ℕ → SinkState → SinkState → Result (Unit {0}) EntriesFault → Type 0
SendsLast form entries old new (Ok tt) = Sends {A = Unit {0}} {E = EntriesFault} old new (Ok tt) (last_line form entries)
SendsLast form entries old new (Err faults.Sink) = Sends {A = Unit {0}} old new (Err faults.Sink) (last_line form entries)
SendsLast form entries old new (Err faults.Memory) = new ≡ old
SendsLast form entries old new (Err fault) = ⊥

-- ---- the lines of one piece

-- The result, without its value.
abbrev pub without_value : {A : Type 0} → Result A EntriesFault → Result (Unit {0}) EntriesFault
without_value (Ok value) = Ok tt
without_value (Err fault) = Err fault

-- Why reading stops after these entries of a list: they are all complete ones; or the list has a fault after them; or the sink failed or
-- memory ran out.
abbrev pub StopsAfter : List ℕ → List ListEntry → List ℕ → Result (Unit {0}) EntriesFault → Type 0
StopsAfter list entries rest (Ok value) = AreComplete list entries rest
StopsAfter list entries rest (Err faults.Sink) = Unit {0}
StopsAfter list entries rest (Err (faults.List fault)) = FailsFor list fault × (list_fault_entry fault ≡ Some (length entries))
StopsAfter list entries rest (Err faults.Memory) = Unit {0}
StopsAfter list entries rest (Err fault) = ⊥

-- Why it stops so in each list of which some entries were read before, and these bytes are what is left.
abbrev pub StopsIn : List ℕ → ℕ → List ListEntry → List ℕ → Result (Unit {0}) EntriesFault → Type 0
StopsIn bytes number entries rest result =
    (list : List ℕ) (before : List ListEntry) → BeginsWith list before bytes → number ≡ length before
    → StopsAfter list (before ++ entries) rest result

-- The bytes begin with these entries, after which `rest` is left. They were counted; an entry has at least one byte. The form is the same.
pub record Counts (old new : EntryLines) (bytes : List ℕ) (entries : List ListEntry) (rest : List ℕ) : Type 0 where
  pub form : new.form ≡ old.form
  pub begins : BeginsWith bytes entries rest
  pub count : new.entries ≡ old.entries + length entries
  pub few : new.entries + length rest ≤ old.entries + length bytes

-- The lines of entries at the start of the bytes were added. Then reading stopped, and after `Ok` so many bytes are left. No sink failed.
pub record AddsLines (old new : EntryLines) (bytes : List ℕ) (result : Result ℕ EntriesFault) : Type 0 where
  pub entries : List ListEntry
  pub rest : List ℕ
  pub counts : Counts old new bytes entries rest
  pub lines : new.lines.items ≡ old.lines.items ++ entry_lines_from old.form old.entries entries
  pub stops : StopsIn bytes old.entries entries rest (without_value result)
  pub rest_is : IfOk result (λ left. left ≡ length rest)
  pub no_sink : as_sent (without_value result) ≡ Ok tt

-- The lines of entries at the start of the bytes were sent. Then reading stopped, or the sink failed; after `Ok` these bytes are left.
pub record SendsLines (old new : EntryLines) (bytes left : List ℕ) (sink_old sink_new : SinkState)
    (result : Result (Unit {0}) EntriesFault) : Type 0 where
  pub entries : List ListEntry
  pub rest : List ℕ
  pub counts : Counts old new bytes entries rest
  pub sends : Sends sink_old sink_new (as_sent result) (entry_lines_from old.form old.entries entries)
  pub stops : StopsIn bytes old.entries entries rest result
  pub rest_is : OnOk result (left ≡ rest)
