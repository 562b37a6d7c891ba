-- Outputs that are sent while their input is read: what was sent is what the program is asked for.
use Rattle.std.proofs.Common.{◌≡◌, ◌⊎◌, ℕ, ◌+◌, ◌<◌, List, [], ◌∷◌, ◌++◌, length, Option, None, Some, Result, Ok, Err, refl, sym, ap, subst, ◌∙◌, append_assoc, append-nil, arith, inl, inr, codes}
use Rattle.std.specs.Prelude.{IfSome, IsTrue}
use Rattle.std.specs.Io.KnownBytes.{IsAtEnd}
use Rattle.std.proofs.lemmas.List.{length-append}
use Rattle.byte_streams.specs.declared.streams.Failed.{Failed}
use Rattle.byte_streams.specs.Streams.{Sends, SinkState}
use Rattle.byte_streams.proofs.SinkLaws.{Sends-none, Sends-ok, Sends-same, Sends-then}
use Rattle.boot_log.specs.declared.fault.LogFault.{LogFault}
use Rattle.boot_log.specs.declared.header.DeclaredAlgorithm.{DeclaredAlgorithm}
use Rattle.boot_log.specs.Names.{LogEvent}
use Rattle.ima_list.specs.declared.fault.ListFault.{ListFault}
use Rattle.ima_list.specs.declared.fault.ListFault.TheVariants as lists
use Rattle.ima_list.specs.Names.{BeginsWith, IsReading, ListEntry, list_fault_entry, list_spelling}
use Rattle.boot_verdict.specs.Names.{CameFrom, FailsFor}
use Rattle.entry_lines.specs.declared.entry_lines.EntriesFault.{EntriesFault}
use Rattle.entry_lines.specs.declared.entry_lines.EntriesFault.TheVariants as entries
use Rattle.event_lines.specs.declared.event_lines.EventsFault.{EventsFault}
use Rattle.event_lines.specs.declared.event_lines.EventsFault.TheVariants as events
use Rattle.entry_lines.specs.ListLines.{entry_line, last_line}
use Rattle.entry_lines.specs.SentEntries.{AreAllIn, SendsEntries, as_sent}
use Rattle.event_lines.specs.SentEvents.{SendsEvents, SendsLines}
use Rattle.measured_data.specs.declared.confirmed.Pcr.{Pcr}
use Rattle.cells.specs.declared.writer.Form.{Form}
use Rattle.cells.specs.declared.writer.Form.TheVariants.{Json, Text}
use Rattle.agent_inputs.specs.declared.fault.RunFault.{RunFault}
use Rattle.agent_inputs.specs.declared.fault.RunFault.TheVariants as runs
use Rattle.agent_inputs.specs.Faults.{fault_of_list, fault_of_log}
use Rattle.agent_inputs.specs.Loading.{Holds, Inputs, IsInputFault, IsNotRead, IsTooLong, input_limit}
use Rattle.byte_streams.specs.declared.memory.SliceSource.{SliceSource}
use Rattle.byte_streams.specs.Memory.{slice_source_rest, slice_source_state}
use Rattle.ima_agent.specs.declared.streams.StreamFault.{StreamFault}
use Rattle.ima_agent.specs.declared.streams.StreamFault.TheVariants as streams
use Rattle.rendering.specs.FaultTexts.{IsFailure, json_fault_line}
use Rattle.ima_agent.specs.Showing.{AreAllInFile, EndsAfterEntries, IsNoneInFile, IsReported, IsWholeList, ShowsEntriesOf, ShowsSoundList, ShowsToFault, StopsInFile, entry_lines, list_lines, numbered_lines}
use Rattle.ima_agent.specs.ShowingEvents.{AreAllEvents, Form, ShowsEventsIn, StopsInLog, log_lines}
use Rattle.ima_agent.specs.Program.{IsStoppedBy, Streams}
use Rattle.ima_agent.specs.Program as program
use Rattle.judging.specs.Answering.{GivesInput}
use Rattle.judging.specs.Inputs.Where.{FileOf}
use Rattle.judging.proofs.OpeningLaws.{slice_gives_input}
use Rattle.judging.proofs.InputLaws.{HasAll, held_more, held_whole}

-- The line of `Memory`, of which there is always one.
abbrev memory_line : Form → List ℕ
memory_line Text = codes "failed: memory\n"
memory_line Json = json_fault_line runs.Memory

memory_reported : (form : Form) → IsReported form runs.Memory (memory_line form) 3
memory_reported Text = (refl, refl)
memory_reported Json = (refl, refl)

-- What is written for a fault is its own line, or that of `Memory`.
own_or_memory : (form : Form) (fault : RunFault) (line : List ℕ) (status : ℕ) → IsFailure form fault line status
    → IsReported form fault line status ⊎ IsReported form runs.Memory line status
own_or_memory Text fault line status is = inl is
own_or_memory Json fault line status is = is

-- ---- what is shown up to a fault

-- A text was sent, and this is why what follows it is asked for: it may break off anywhere.
module _ (form : Form) (IsWanted : List ℕ → ℕ → Type 0) (Stops : List ℕ → RunFault → Type 0)
    (ends : (text : List ℕ) (fault : RunFault) (line : List ℕ) (status : ℕ) → Stops text fault → IsReported form fault line status
    → IsWanted (text ++ line) status) (old new : SinkState) (text : List ℕ) where
  -- The sink failed, and more would have come.
  cut_by : {E : Type 0} (fault : E) (failed : Failed) → Sends {A = Unit {0}} {E = E} old new (Err fault) text
      → (rest : List ℕ) × (status : ℕ) × IsWanted (text ++ rest) status → Streams form IsWanted old new (Err (streams.Sink failed))
  cut_by fault failed sends more = record {
    text = text;
    sends = record { ok = tt; part = sends.part; telling = sends.telling; counts = sends.counts };
    goes_on = more;
  }

  cut_sent : {E : Type 0} (fault : E) (failed : Failed) → Sends {A = Unit {0}} {E = E} old new (Err fault) text → Stops text runs.Memory
      → Streams form IsWanted old new (Err (streams.Sink failed))
  cut_sent fault failed sends memory =
      cut_by fault failed sends (memory_line form, 3, ends text runs.Memory (memory_line form) 3 memory (memory_reported form))

  line_follows : (fault : RunFault) → Stops text fault → Stops text runs.Memory → (last : List ℕ) (status : ℕ) → IsFailure form fault last status
      → IsWanted (text ++ last) status
  line_follows fault stops memory last status failure = elim (own_or_memory form fault last status failure) [
    | inl reported ↦ ends text fault last status stops reported
    | inr reported ↦ ends text runs.Memory last status memory reported
  ]

  fault_sent : {E : Type 0} (fault : RunFault) → Sends {A = Unit {0}} {E = E} old new (Ok tt) text → Stops text fault → Stops text runs.Memory
      → Streams form IsWanted old new (Err (streams.Run fault))
  fault_sent fault sends stops memory =
      record { text = text; sends = Sends-ok old new tt tt text sends; goes_on = line_follows fault stops memory }

module _ (form : Form) (done : ℕ) (AreAll : List ℕ → Type 0) (Stops : List ℕ → RunFault → Type 0) where
  all_sent : {E : Type 0} (old new : SinkState) (text : List ℕ) → Sends {A = Unit {0}} {E = E} old new (Ok tt) text → AreAll text
      → Streams form (ShowsToFault done AreAll Stops (IsReported form)) old new (Ok done)
  all_sent old new text sends all = record { text = text; sends = Sends-ok old new tt tt text sends; goes_on = inl (all, refl) }

  -- The line of the fault is the end.
  to_fault : (text : List ℕ) (fault : RunFault) (line : List ℕ) (status : ℕ) → Stops text fault → IsReported form fault line status
      → ShowsToFault done AreAll Stops (IsReported form) (text ++ line) status
  to_fault text fault line status stops reported = inr (text, fault, line, stops, reported, refl)

-- What is asked for in one way is asked for in another.
pub streams_so : {form : Form} (P Q : List ℕ → ℕ → Type 0) (old new : SinkState) (result : Result ℕ StreamFault)
    → ((text : List ℕ) (status : ℕ) → P text status → Q text status) → Streams form P old new result → Streams form Q old new result
streams_so P Q old new (Ok status) so sent = record { text = sent.text; sends = sent.sends; goes_on = so sent.text status sent.goes_on }
streams_so P Q old new (Err (streams.Sink failed)) so sent =
    record {
      text = sent.text;
      sends = sent.sends;
      goes_on = (sent.goes_on.0, sent.goes_on.1, so (sent.text ++ sent.goes_on.0) sent.goes_on.1 sent.goes_on.2);
    }
streams_so P Q old new (Err (streams.Run fault)) so sent =
    record {
      text = sent.text;
      sends = sent.sends;
      goes_on = λ last status failure. so (sent.text ++ last) status (sent.goes_on last status failure);
    }

-- ---- the events of a log

module _ (form : Form) (matched : Option (List Pcr)) (done : ℕ) (log : List ℕ) (old new : SinkState) where
  abbrev lines : List DeclaredAlgorithm → List LogEvent → List ℕ
  lines = log_lines form matched log

  abbrev AreAll : List ℕ → Type 0
  AreAll = AreAllEvents lines log

  abbrev Stops : List ℕ → RunFault → Type 0
  Stops = StopsInLog form matched log

  abbrev Shown : List ℕ → ℕ → Type 0
  Shown = ShowsEventsIn form matched done log

  out : (result : Result (Unit {0}) EventsFault) (sent : SendsLines form matched log old new result) → Stops (lines sent.table sent.events) runs.Memory
  out result sent = inr (inl (refl, (sent.table, sent.events, sent.rest, sent.begins, refl)))

  pub events_shown : SendsEvents form matched log old new (Ok tt) → Streams form Shown old new (Ok done)
  events_shown (inl sent) =
      all_sent form done AreAll Stops old new (lines sent.table sent.events) sent.sends
      (record { table = sent.table; events = sent.events; log_is = sent.ends; text_is = refl })
  events_shown (inr none) = absurd none.refused

  pub events_cut : (failed : Failed) → SendsEvents form matched log old new (Err events.Sink) → Streams form Shown old new (Err (streams.Sink failed))
  events_cut failed (inl sent) =
      cut_sent form Shown Stops (to_fault form done AreAll Stops) old new (lines sent.table sent.events) events.Sink failed sent.sends
      (out (Err events.Sink) sent)
  events_cut failed (inr none) = absurd none.refused

  pub events_to_fault : (first : LogFault) (fault : RunFault) → fault ≡ fault_of_log first
      → SendsEvents form matched log old new (Err (events.Log first)) → Streams form Shown old new (Err (streams.Run fault))
  events_to_fault first fault says (inl sent) =
      fault_sent form Shown Stops (to_fault form done AreAll Stops) old new (lines sent.table sent.events) fault sent.sends
      (inl (first, says, inr (sent.table, sent.events, sent.ends, refl))) (out (Err (events.Log first)) sent)
  events_to_fault first fault says (inr none) =
      fault_sent form Shown Stops (to_fault form done AreAll Stops) old new [] fault none.sends (inl (first, says, inl (refl, none.refused)))
      (inr (inr (refl, refl)))

  pub events_run_out : SendsEvents form matched log old new (Err events.Memory) → Streams form Shown old new (Err (streams.Run runs.Memory))
  events_run_out (inl sent) =
      fault_sent form Shown Stops (to_fault form done AreAll Stops) old new (lines sent.table sent.events) runs.Memory sent.sends
      (out (Err events.Memory) sent)
      (out (Err events.Memory) sent)
  events_run_out (inr none) =
      fault_sent form Shown Stops (to_fault form done AreAll Stops) old new [] runs.Memory none.sends (inr (inr (refl, refl))) (inr (inr (refl, refl)))

-- No more than the fault is said.
pub none_said : {form : Form} (P : List ℕ → ℕ → Type 0) (sink : SinkState) (fault : RunFault)
    → ((last : List ℕ) (status : ℕ) → IsFailure form fault last status → P last status) → Streams form P sink sink (Err (streams.Run fault))
none_said P sink fault so = record { text = []; sends = Sends-none sink tt; goes_on = so }

-- ---- the entries of a list

held_any : (known : Option (List ℕ)) → (all : List ℕ) × IfSome known (λ bytes. all ≡ bytes)
held_any None = ([], tt)
held_any (Some bytes) = (bytes, refl)

too_much : (known old new : Option (List ℕ)) (limit : ℕ) (list over : List ℕ) → HasAll known old → CameFrom old new limit list over
    → length list ≡ limit → 0 < length over → IfSome known (λ all. limit < length all)
too_much None old new limit list over has came size some = tt
too_much (Some all) old new limit list over has came size some =
    let more = held_more (Some all) old new limit list over has came in
    omega (arith, size, some, more.2, sym (ap length more.1), length-append list more.0)

-- No lines.
no_lines : (number : ℕ) (es : List ListEntry) → numbered_lines (entry_line None) number es ≡ []
no_lines number [] = refl
no_lines number (first ∷ es) = no_lines (number + 1) es

module _ (lines : Option Form) (inputs : Inputs) (name : List ℕ) where
  source_ends : (list : List ℕ) (es : List ListEntry) (fault : RunFault) → IsTrue (inputs.may_fail (Some name)) → AreAllIn list es
      → IsNotRead name fault ⊎ (fault ≡ runs.Memory) → EndsAfterEntries inputs name list es fault
  source_ends list es fault may all (inl says) = inl ((says, may), all)
  source_ends list es fault may all (inr memory) = inr (inr memory)

  -- Nothing came.
  came_none : IsReading [] (Ok []) → (fault : RunFault) → EndsAfterEntries inputs name [] [] fault → StopsInFile lines inputs name [] fault
  came_none nothing fault ends = let any = held_any (inputs.held (Some name)) in inr (record {
    came = [];
    more = any.0;
    entries = [];
    rest = [];
    held = any.1;
    begins = nothing.begins;
    ends = ends;
    text_is = refl;
  })

  module _ (old new : Option (List ℕ)) (sink_old sink_new : SinkState) (has : HasAll (inputs.held (Some name)) old) where
    -- The entries of a list that fails after them.
    damaged : (list : List ℕ) (es : List ListEntry) (rest : List ℕ) (first : ListFault)
        → Holds inputs (Some name) list → BeginsWith list es rest → IsReading list (Err first) → list_fault_entry first ≡ Some (length es)
        → StopsInFile lines inputs name (entry_lines lines es) (fault_of_list first)
    damaged list es rest first held begins reading names = inl (
      list,
      held,
      record {
        entries = es;
        rest = rest;
        first = first;
        begins = begins;
        reading = reading;
        number_is = names;
        text_is = refl;
        fault_is = refl;
      },
    )

    whole_of : (list over : List ℕ) → CameFrom old new input_limit list over → over ≡ [] → IsAtEnd new
        → Holds inputs (Some name) list
    whole_of list over came none end =
        held_whole (inputs.held (Some name)) old new input_limit list has
        (record { came = subst (CameFrom old new input_limit list) none came; end = end })

    module _ {result : Result (Unit {0}) EntriesFault} (sends : SendsEntries lines old new input_limit sink_old sink_new result) where
      -- The entries of what came, if no more come.
      breaks_off : (fault : RunFault) → EndsAfterEntries inputs name sends.list sends.entries fault
          → StopsInFile lines inputs name (entry_lines lines sends.entries) fault
      breaks_off fault ends =
          let more = held_more (inputs.held (Some name)) old new input_limit sends.list sends.over has sends.came in
          inr (record {
            came = sends.list;
            more = more.0;
            entries = sends.entries;
            rest = sends.rest;
            held = more.1;
            begins = sends.begins;
            ends = ends;
            text_is = refl;
          })

      -- Memory ran out.
      ran_out : StopsInFile lines inputs name (entry_lines lines sends.entries) runs.Memory
      ran_out = breaks_off runs.Memory (inr (inr refl))

      -- Nothing was sent after the lines of entries.
      without_last : sends.last ≡ [] → Sends sink_old sink_new (as_sent result) (entry_lines lines sends.entries)
      without_last none =
          Sends-same sink_old sink_new (as_sent result) (entry_lines lines sends.entries ++ sends.last) (entry_lines lines sends.entries)
          (ap (λ (l : List ℕ). entry_lines lines sends.entries ++ l) none ∙ append-nil (entry_lines lines sends.entries)) sends.sends

      -- The last line was.
      with_last : sends.last ≡ last_line lines (length sends.entries) → Sends sink_old sink_new (as_sent result) (list_lines lines sends.entries)
      with_last is =
          Sends-same sink_old sink_new (as_sent result) (entry_lines lines sends.entries ++ sends.last) (list_lines lines sends.entries)
          (ap (λ (l : List ℕ). entry_lines lines sends.entries ++ l) is) sends.sends

      -- Another fault of the list than `Truncated`, which no more bytes mend.
      lasting : (first : ListFault) → FailsFor sends.list first → list_fault_entry first ≡ Some (length sends.entries)
          → StopsInFile lines inputs name (entry_lines lines sends.entries) (fault_of_list first)
      lasting first lasts names =
          let more = held_more (inputs.held (Some name)) old new input_limit sends.list sends.over has sends.came in
          let begins : BeginsWith (sends.list ++ more.0) sends.entries (sends.rest ++ more.0) = record {
            are = sends.begins.are;
            parts = ap (λ (l : List ℕ). l ++ more.0) sends.begins.parts ∙ append_assoc (list_spelling sends.entries) sends.rest more.0;
          } in
          damaged (sends.list ++ more.0) sends.entries (sends.rest ++ more.0) first more.1 begins (lasts.1 more.0) names

      all_in_file : (over_none : sends.over ≡ []) → IsAtEnd new → IsReading sends.list (Ok sends.entries)
          → AreAllInFile lines inputs name (list_lines lines sends.entries)
      all_in_file none end reading = (
        sends.list,
        whole_of sends.list sends.over sends.came none end,
        record { entries = sends.entries; reading = reading; text_is = refl },
      )

    -- The fault of a list, after the lines of the entries before it.
    fails : (first : ListFault) (sends : SendsEntries lines old new input_limit sink_old sink_new (Err (entries.List first)))
        → StopsInFile lines inputs name (entry_lines lines sends.entries) (fault_of_list first)
    fails (lists.Truncated entry) sends =
        damaged sends.list sends.entries sends.rest (lists.Truncated entry)
        (whole_of sends.list sends.over sends.came sends.ends.0 sends.ends.1) sends.begins sends.ends.2 (ap (λ (n : ℕ). Some n) sends.ends.3)
    fails (lists.BadRegister entry) sends = lasting sends (lists.BadRegister entry) sends.ends.0 sends.ends.1
    fails (lists.NameTooLong entry) sends = lasting sends (lists.NameTooLong entry) sends.ends.0 sends.ends.1
    fails lists.Memory sends = absurd sends.ends.0.0

    long_ends : (sends : SendsEntries lines old new input_limit sink_old sink_new (Err entries.TooLong)) (fault : RunFault)
        → IsTooLong name fault ⊎ (fault ≡ runs.Memory) → EndsAfterEntries inputs name sends.list sends.entries fault
    long_ends sends fault (inl says) =
        let long = too_much (inputs.held (Some name)) old new input_limit sends.list sends.over has sends.came sends.ends.0
        sends.ends.1 in
        inr (inl (says, long, sends.ends.0, sends.ends.2))
    long_ends sends fault (inr memory) = inr (inr memory)

    -- The file was read to its end.
    pub whole_list : SendsEntries lines old new input_limit sink_old sink_new (Ok tt) → IsWholeList inputs name
    whole_list sends = (
      sends.list,
      whole_of sends.list sends.over sends.came sends.ends.0 sends.ends.1,
      (sends.came.within, (sends.entries, sends.ends.2)),
    )

    -- What was sent of a list that stops is asked for, if this is: all of it, and it as far as it came, with the line of why there is no more.
    module _ (form : Form) (IsWanted : List ℕ → ℕ → Type 0)
        (all : (text : List ℕ) → AreAllInFile lines inputs name text → (rest : List ℕ) × (status : ℕ) × IsWanted (text ++ rest) status)
        (ends : (text : List ℕ) (fault : RunFault) (line : List ℕ) (status : ℕ) → StopsInFile lines inputs name text fault
        → IsReported form fault line status → IsWanted (text ++ line) status) where
      faulted : (reason : EntriesFault) (fault : RunFault) (sends : SendsEntries lines old new input_limit sink_old sink_new (Err reason))
          → as_sent (Err reason) ≡ Ok tt → sends.last ≡ [] → StopsInFile lines inputs name (entry_lines lines sends.entries) fault
          → Streams form IsWanted sink_old sink_new (Err (streams.Run fault))
      faulted reason fault sends no-sink none stops =
          fault_sent form IsWanted (StopsInFile lines inputs name) ends sink_old sink_new (entry_lines lines sends.entries) fault
          (rw no-sink at (without_last sends none)) stops (ran_out sends)

      pub stopped : (reason : EntriesFault) (fault : StreamFault) → IsStoppedBy name reason fault
          → (reason ≡ entries.Source → IsTrue (inputs.may_fail (Some name))) → SendsEntries lines old new input_limit sink_old sink_new (Err reason)
          → Streams form IsWanted sink_old sink_new (Err fault)
      stopped entries.Sink fault is may sends = rw is.1 (elim sends.last_is [
        | inl none ↦ cut_sent form IsWanted (StopsInFile lines inputs name) ends sink_old sink_new (entry_lines lines sends.entries) entries.Sink is.0
            (without_last sends none) (ran_out sends)
        | inr last ↦ cut_by form IsWanted (StopsInFile lines inputs name) ends sink_old sink_new (list_lines lines sends.entries) entries.Sink is.0
            (with_last sends last.0) (all (list_lines lines sends.entries) (all_in_file sends last.1 last.2 last.3))
      ])
      stopped (entries.List first) fault is may sends =
          rw is (faulted (entries.List first) (fault_of_list first) sends refl sends.last_is (fails first sends))
      stopped entries.Source fault is may sends =
          rw is.2 (faulted entries.Source is.0 sends refl sends.last_is
          (breaks_off sends is.0 (source_ends sends.list sends.entries is.0 (may refl) sends.ends.1 is.1)))
      stopped entries.TooLong fault is may sends =
          rw is.2 (faulted entries.TooLong is.0 sends refl sends.last_is (breaks_off sends is.0 (long_ends sends is.0 is.1)))
      stopped entries.Memory fault is may sends = rw is (faulted entries.Memory runs.Memory sends refl sends.last_is (ran_out sends))

-- ---- entries in a form

module _ (form : Form) (inputs : Inputs) (name : List ℕ) where
  abbrev AllOf : List ℕ → Type 0
  AllOf = AreAllInFile (Some form) inputs name

  abbrev StopsOf : List ℕ → RunFault → Type 0
  StopsOf = StopsInFile (Some form) inputs name

  -- The input was not opened.
  pub not_opened : (sink : SinkState) (fault : RunFault) → IsReading [] (Ok []) → IsNotRead name fault ⊎ (fault ≡ runs.Memory)
      → IsTrue (inputs.may_fail (Some name)) → Streams form (ShowsEntriesOf form inputs name) sink sink (Err (streams.Run fault))
  not_opened sink fault nothing reason may =
      fault_sent form (ShowsEntriesOf form inputs name) StopsOf (to_fault form 0 AllOf StopsOf) sink sink [] fault
      (Sends-none {E = Failed} sink tt)
      (came_none (Some form) inputs name nothing fault (source_ends (Some form) inputs name [] [] fault may (inl nothing) reason))
      (came_none (Some form) inputs name nothing runs.Memory (inr (inr refl)))

  module _ (old new : Option (List ℕ)) (sink_old sink_new : SinkState) (has : HasAll (inputs.held (Some name)) old) where
    pub entries_shown : SendsEntries (Some form) old new input_limit sink_old sink_new (Ok tt)
        → Streams form (ShowsEntriesOf form inputs name) sink_old sink_new (Ok 0)
    entries_shown sends =
        all_sent form 0 AllOf StopsOf sink_old sink_new (list_lines (Some form) sends.entries)
        (with_last (Some form) inputs name old new sink_old sink_new has sends sends.last_is)
        (all_in_file (Some form) inputs name old new sink_old sink_new has sends sends.ends.0 sends.ends.1 sends.ends.2)

    pub entries_stopped : (reason : EntriesFault) (fault : StreamFault) → IsStoppedBy name reason fault
        → (reason ≡ entries.Source → IsTrue (inputs.may_fail (Some name))) → SendsEntries (Some form) old new input_limit sink_old sink_new (Err reason)
        → Streams form (ShowsEntriesOf form inputs name) sink_old sink_new (Err fault)
    entries_stopped =
        stopped (Some form) inputs name old new sink_old sink_new has form (ShowsEntriesOf form inputs name)
        (λ text all. ([], 0, inl (rw (append-nil text) all, refl))) (to_fault form 0 AllOf StopsOf)

-- ---- entries as text, of a list that was read through before

module _ (inputs : Inputs) (name : List ℕ) where
  -- The fault is alone.
  pub alone : (fault : RunFault) (line : List ℕ) (status : ℕ) → IsNoneInFile inputs name fault → IsReported Text fault line status
      → ShowsSoundList inputs name line status
  alone fault line status none reported = inr (fault, none, reported)

  none_in_file : (text : List ℕ) (fault : RunFault) → StopsInFile None inputs name text fault → IsNoneInFile inputs name fault
  none_in_file text fault (inl (list, held, fails)) = inr (list, held, (fails.first, fails.reading, fails.fault_is))
  none_in_file text fault (inr breaks) = elim breaks.ends [
    | inl unread ↦ inl (inr (inl unread.0))
    | inr (inl long) ↦ inl (inl (long.0, long.1))
    | inr (inr memory) ↦ inl (inr (inr memory))
  ]

  unsent : (text : List ℕ) (fault : RunFault) → StopsInFile None inputs name text fault → text ≡ []
  unsent text fault (inl (list, held, fails)) = fails.text_is ∙ no_lines 0 fails.entries
  unsent text fault (inr breaks) = breaks.text_is ∙ no_lines 0 breaks.entries

  -- The list was not read through.
  pub not_sound : (old new : Option (List ℕ)) (sink_old sink_new : SinkState) → HasAll (inputs.held (Some name)) old
      → (reason : EntriesFault) (fault : StreamFault) → IsStoppedBy name reason fault
      → (reason ≡ entries.Source → IsTrue (inputs.may_fail (Some name))) → SendsEntries None old new input_limit sink_old sink_new (Err reason)
      → Streams Text (ShowsSoundList inputs name) sink_old sink_new (Err fault)
  not_sound old new sink_old sink_new has =
      stopped None inputs name old new sink_old sink_new has Text (ShowsSoundList inputs name)
      (λ text all. (
        memory_line Text,
        3,
        rw (all.2.text_is ∙ append-nil (entry_lines None all.2.entries) ∙ no_lines 0 all.2.entries)
            (alone runs.Memory (memory_line Text) 3 (inl (inr (inr refl))) (memory_reported Text)),
      ))
      (λ text fault line status stops reported. rw (unsent text fault stops) (alone fault line status (none_in_file text fault stops) reported))

  -- It was, and has a fault.
  pub damaged_alone : (old new : Option (List ℕ)) (sink_old sink_new : SinkState) → HasAll (inputs.held (Some name)) old
      → (first : ListFault) → SendsEntries None old new input_limit sink_old sink_new (Err (entries.List first))
      → (fault : RunFault) → (fault ≡ fault_of_list first) ⊎ IsInputFault inputs (Some name) fault
      → Streams Text (ShowsSoundList inputs name) sink_old sink_new (Err (streams.Run fault))
  damaged_alone old new sink_old sink_new has first sends fault reason =
      let none = without_last None inputs name old new sink_old sink_new has sends sends.last_is in
      let why : IsNoneInFile inputs name fault = elim reason [
        | inl is ↦ rw is (none_in_file (entry_lines None sends.entries) (fault_of_list first) (fails None inputs name old new sink_old sink_new has first sends))
        | inr input ↦ inl input
      ] in
      record {
        text = [];
        sends = Sends-ok sink_old sink_new tt tt [] (rw (no_lines 0 sends.entries) at none);
        goes_on = λ last status failure. alone fault last status why failure;
      }

  -- It was, and then sent while it was read again.
  pub sound : (old new : Option (List ℕ)) (first mid last : SinkState) → HasAll (inputs.held (Some name)) old
      → SendsEntries None old new input_limit first mid (Ok tt) → (result : Result ℕ StreamFault)
      → Streams Text (ShowsEntriesOf Text inputs name) mid last result → Streams Text (ShowsSoundList inputs name) first last result
  sound old new first mid last has sends result sent =
      let whole = whole_list None inputs name old new first mid has sends in
      let none = rw (no_lines 0 sends.entries) at (with_last None inputs name old new first mid has sends sends.last_is) in
      let shown = streams_so (ShowsEntriesOf Text inputs name) (ShowsSoundList inputs name) mid last result (λ text status is. inl (whole, is)) sent in
      record {
        text = shown.text;
        sends = Sends-then first mid last tt (program.as_sent result) [] shown.text none shown.sends;
        goes_on = shown.goes_on;
      }

-- ---- inputs

-- The input is too long.
pub too_long_for : (inputs : Inputs) (name : List ℕ) (left : Option (List ℕ)) (fault : RunFault) → HasAll (inputs.held (Some name)) left
    → IfSome left (λ all. input_limit < length all) → IsTooLong name fault ⊎ (fault ≡ runs.Memory) → IsInputFault inputs (Some name) fault
too_long_for inputs name left fault has more (inl says) = inl (says, held_more_than (inputs.held (Some name)) left has more) where
  held_more_than : (known left : Option (List ℕ)) → HasAll known left → IfSome left (λ all. input_limit < length all)
      → IfSome known (λ all. input_limit < length all)
  held_more_than None left has more = tt
  held_more_than (Some all) left has more = rw has at more
too_long_for inputs name left fault has more (inr memory) = inr (inr memory)

-- It could not be read.
pub unread_for : (inputs : Inputs) (name : List ℕ) (fault : RunFault) → IsTrue (inputs.may_fail (Some name))
    → IsNotRead name fault ⊎ (fault ≡ runs.Memory) → IsInputFault inputs (Some name) fault
unread_for inputs name fault may (inl says) = inr (inl (says, may))
unread_for inputs name fault may (inr memory) = inr (inr memory)

-- It was not opened.
pub not_opened_alone : (inputs : Inputs) (name : List ℕ) (sink : SinkState) (fault : RunFault) → IsNotRead name fault ⊎ (fault ≡ runs.Memory)
    → IsTrue (inputs.may_fail (Some name)) → Streams Text (ShowsSoundList inputs name) sink sink (Err (streams.Run fault))
not_opened_alone inputs name sink fault reason may =
    none_said (ShowsSoundList inputs name) sink fault
    (λ last status failure. alone inputs name fault last status (inl (unread_for inputs name fault may reason)) failure)

-- A source over the bytes of a file gives it.
pub slice_gives : (inputs : Inputs) (name : List ℕ) (old new : SliceSource) → Holds inputs (Some name) (slice_source_rest old)
    → GivesInput inputs (FileOf name) (slice_source_state old) (slice_source_state new)
slice_gives inputs name old new held = slice_gives_input inputs (FileOf name) old new held
