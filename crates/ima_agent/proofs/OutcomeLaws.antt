-- What was sent is what is asked for, and is answered with its status.
use Rattle.std.proofs.Common.{◌≡◌, ℕ, ◌+◌, Bool, false, List, [], ◌∷◌, ◌++◌, Result, Ok, Err, refl, sym, ap, ◌∙◌, append_assoc, append-nil, inl, inr}
use Rattle.std.proofs.lemmas.List.Concat.{flat_map-cons}
use Rattle.std.specs.Prelude.{flat_map, IfErr, IfOk, OnErr, Option, None, Some, String, string_bytes}
use Rattle.std.specs.Global.{Global}
use Rattle.byte_streams.specs.declared.streams.Failed.{Failed}
use Rattle.byte_streams.specs.Streams.{Sends, SinkState}
use Rattle.byte_streams.proofs.SinkLaws.{Sends-none, Sends-then}
use Rattle.agent_inputs.specs.declared.fault.RunFault.{RunFault}
use Rattle.agent_inputs.specs.declared.fault.RunFault.TheVariants.{Memory}
use Rattle.agent_inputs.specs.Loading.{Inputs, ReplacedFiles}
use Rattle.agent_inputs.specs.Opening.{IsReplayedOf}
use Rattle.agent_plans.specs.declared.plan.ConfirmedBy.{ConfirmedBy}
use Rattle.agent_plans.specs.declared.plan.DataShown.{DataShown}
use Rattle.agent_plans.specs.declared.plan.LogFile.{LogFile}
use Rattle.cells.specs.declared.writer.Form.{Form}
use Rattle.cells.specs.declared.writer.Form.TheVariants.{Json, Text}
use Rattle.agent_plans.specs.declared.plan.ComparisonKind.TheVariants as kinds
use Rattle.agent_plans.specs.declared.plan.Query.{Query}
use Rattle.agent_plans.specs.declared.plan.Query.TheVariants as queries
use Rattle.agent_plans.specs.declared.plan.Task.{Task}
use Rattle.agent_plans.specs.declared.plan.Task.TheVariants as tasks
use Rattle.rendering.specs.declared.outputs.Output.{Output}
use Rattle.ima_agent.specs.declared.streams.StreamFault.{StreamFault}
use Rattle.ima_agent.specs.declared.streams.StreamFault.TheVariants as streams
use Rattle.rendering.specs.FaultTexts.{IsFailure}
use Rattle.judging.specs.Queries.{known_by}
use Rattle.ima_agent.specs.Program.{Answers, IsFaultOf, IsOutcome, IsOutputFor, SendsOutput, SendsText, Streams, status_after}
use Rattle.measured_data.specs.declared.confirmed.Pcr.{Pcr}
use Rattle.ima_agent.specs.Matching.{AreMatched, IsKnownFor, opened_log}
use Rattle.ima_list.specs.Names.{ListEntry, line_of}
use Rattle.entry_lines.specs.ListLines.{entry_line}
use Rattle.ima_agent.specs.Showing.{AreAllEntries, IsReported, ShowsEntriesOf, ShowsSoundList, entry_lines, numbered_lines, reads_first}
use Rattle.ima_agent.specs.ShowingEvents.{Form, ShowsEventsIn, ShowsPlainEventsIn, ShowsToldOf, plain_lines}

-- A sink that failed in a text did not take more.
sent_less : {A B E F : Type 0} (old new : SinkState) (fault : E) (other : F) (text more : List ℕ)
    → Sends {A = A} {E = E} old new (Err fault) text → Sends {A = B} {E = F} old new (Err other) (text ++ more)
sent_less old new fault other text more sends = record {
  ok = tt;
  part = record {
    prefix = sends.part.prefix;
    rest = sends.part.rest ++ more;
    whole = ap (λ (t : List ℕ). t ++ more) sends.part.whole ∙ append_assoc sends.part.prefix sends.part.rest more;
    taken = sends.part.taken;
  };
  telling = sends.telling;
  counts = sends.counts;
}

-- ---- outputs that were prepared whole

-- What holds whatever came, holds of a fault.
pub kept_so : {A E P : Type 0} (result : Result A E) → P → OnErr result P
kept_so (Ok value) holds = tt
kept_so (Err fault) holds = holds

pub text_sent : {form : Form} (IsWanted : List ℕ → ℕ → Type 0) (text : List ℕ) (status : ℕ) (old new : SinkState) (result : Result ℕ StreamFault)
    → IsWanted text status → SendsText text status old new result → Streams form IsWanted old new result
text_sent IsWanted text status old new (Ok answer) request sent = record { text = text; sends = sent.0; goes_on = rw sent.1 request }
text_sent IsWanted text status old new (Err (streams.Sink failed)) request sent =
    record { text = text; sends = sent; goes_on = ([], status, rw (append-nil text) request) }
text_sent IsWanted text status old new (Err (streams.Run fault)) request sent = absurd sent

module _ (inputs : Inputs) (task : Task) (form : Form) (old new : ReplacedFiles) where
  pub none_sent : (sink : SinkState) (fault : RunFault) → IsFaultOf inputs task form fault → new ≡ old
      → Streams form (IsOutcome inputs task form old new) sink sink (Err (streams.Run fault))
  none_sent sink fault is kept = record {
    text = [];
    sends = Sends-none sink tt;
    goes_on = λ last status failure. inr (inl (fault, is, failure, kept));
  }

  pub outcome_sent : (output : Result Output RunFault) (before after : SinkState) (result : Result ℕ StreamFault)
      → IfOk output (λ o. IsOutputFor inputs task form old new o.text.items o.status) → OnErr output (new ≡ old)
      → IfErr output (IsFaultOf inputs task form) → SendsOutput output before after result
      → Streams form (IsOutcome inputs task form old new) before after result
  outcome_sent (Ok output) before after result shown kept fault sent =
      text_sent (IsOutcome inputs task form old new) output.text.items output.status before after result (inl shown) sent
  outcome_sent (Err fault) before after result shown kept is sent = rw (sent.0, sent.1) (none_sent before fault is kept)

-- ---- outputs that were sent while their input was read

-- The line of a fault is what is written for it.
reported_so : (form : Form) (fault : RunFault) (line : List ℕ) (status : ℕ) → IsReported form fault line status → IsFailure form fault line status
reported_so Text fault line status is = is
reported_so Json fault line status is = inl is

module _ (inputs : Inputs) (log : LogFile) (requested : DataShown) (confirmed_by : ConfirmedBy) (form : Form) (old new : ReplacedFiles)
    (bytes : List ℕ) (held : IsReplayedOf inputs (opened_log log) log.hcrtm bytes) (kept : new ≡ old) where
  abbrev Outcome : List ℕ → ℕ → Type 0
  Outcome = IsOutcome inputs (tasks.Events log requested confirmed_by) form old new

  pub plain_outcome : (with_data : Bool) → plain_lines form requested ≡ Some with_data → (text : List ℕ) (status : ℕ)
      → ShowsPlainEventsIn form with_data bytes text status → Outcome text status
  plain_outcome with_data is text status (inl all) = inl ((bytes, held, rw is all), kept)
  plain_outcome with_data is text status (inr (fault, none, failure)) = inr (inl (fault, inr (bytes, held, rw is none), failure, kept))

  module _ (is : plain_lines form requested ≡ None) where
    events_outcome : IsKnownFor form bytes → (matched : Option (List Pcr)) (done : ℕ) → AreMatched inputs confirmed_by bytes matched done
        → (text : List ℕ) (status : ℕ) → ShowsEventsIn form matched done bytes text status → Outcome text status
    events_outcome known matched done are text status (inl all) = inl ((bytes, held, rw is (known, (matched, done, are, inl all))), kept)
    events_outcome known matched done are text status (inr (begun, fault, line, inl fails, reported, ends)) =
        inl ((bytes, held, rw is (known, (matched, done, are, inr (begun, fault, line, fails, reported, ends)))), kept)
    events_outcome known matched done are text status (inr (begun, fault, line, inr (inl out), reported, ends)) =
        inr (inr ((bytes, held, rw is (known, (matched, done, are, (begun, fault, line, out, reported, ends)))), kept))
    events_outcome known matched done are text status (inr (begun, fault, line, inr (inr (memory, none)), reported, ends)) =
        inr (inl (fault, inl (inr (inr memory)), rw (ends, none) (reported_so form fault line status reported), kept))

    pub told_outcome : (text : List ℕ) (status : ℕ) → ShowsToldOf inputs form confirmed_by bytes text status
        → Outcome text status
    told_outcome text status (inl (known, (matched, done, are, shown))) = events_outcome known matched done are text status shown
    told_outcome text status (inr (fault, none, failure)) = inr (inl (fault, inr (bytes, held, rw is none), failure, kept))

pub entries_outcome : (inputs : Inputs) (list : String Global) (partial : Bool) (form : Form) (old new : ReplacedFiles) → reads_first form partial ≡ false
    → new ≡ old → (text : List ℕ) (status : ℕ)
    → ShowsEntriesOf form inputs (string_bytes list) text status → IsOutcome inputs (tasks.Entries list partial) form old new text status
entries_outcome inputs list partial form old new read kept text status (inl ((bytes, held, all), done)) =
    inl (rw read (bytes, held, inl (all, done)), kept)
entries_outcome inputs list partial form old new read kept text status (inr (begun, fault, line, inl (bytes, held, fails), reported, is)) =
    inl (rw read (bytes, held, inr (begun, fault, line, fails, reported, is)), kept)
entries_outcome inputs list partial form old new read kept text status (inr (begun, fault, line, inr breaks, reported, is)) =
    inr (inr (rw read (begun, fault, line, breaks, reported, is), kept))

-- The lines of entries as text.
text_lines : (number : ℕ) (entries : List ListEntry) → numbered_lines (entry_line (Some Text)) number entries ≡ flat_map line_of entries
text_lines number [] = refl
text_lines number (first ∷ entries) =
    ap (λ (t : List ℕ). line_of first ++ t) (text_lines (number + 1) entries) ∙ sym (flat_map-cons line_of first entries)

pub sound_outcome : (inputs : Inputs) (list : String Global) (old new : ReplacedFiles) → new ≡ old → (text : List ℕ) (status : ℕ)
    → ShowsSoundList inputs (string_bytes list) text status → IsOutcome inputs (tasks.Entries list false) Text old new text status
sound_outcome inputs list old new kept text status (inl (whole, inl ((bytes, held, all), done))) =
    let as_text : AreAllEntries (flat_map line_of) bytes text = record {
      entries = all.entries;
      reading = all.reading;
      text_is = all.text_is ∙ append-nil (entry_lines (Some Text) all.entries) ∙ text_lines 0 all.entries;
    } in
    inl (((bytes, held, as_text), done), kept)
sound_outcome inputs list old new kept text status (inl (whole, inr stops)) = inr (inr ((whole, stops), kept))
sound_outcome inputs list old new kept text status (inr (fault, none, reported)) = inr (inl (fault, none, reported, kept))

-- ---- the answer to what was sent

-- What answers one thing answers another.
pub answers_so : (P Q : List ℕ → ℕ → Type 0) (answer : ℕ) (old new : SinkState) → ((text : List ℕ) (status : ℕ) → P text status → Q text status)
    → Answers P answer old new → Answers Q answer old new
answers_so P Q answer old new so said = record {
  text = said.text;
  status = said.status;
  sent = said.sent;
  output = so said.text said.status said.output;
  sends = said.sends;
  answer_is = said.answer_is;
}

-- A line was sent.
pub line_sent : (P : List ℕ → ℕ → Type 0) (text : List ℕ) (status answer : ℕ) (sent : Result (Unit {0}) Failed) (old new : SinkState)
    → P text status → Sends old new sent text → answer ≡ status_after sent status → Answers P answer old new
line_sent P text status answer sent old new is sends answer_is =
    record { text = text; status = status; sent = sent; output = is; sends = sends; answer_is = answer_is }

pub answers_done : {form : Form} (P : List ℕ → ℕ → Type 0) (old new : SinkState) (status : ℕ) → Streams form P old new (Ok status)
    → Answers P status old new
answers_done P old new status sent = record {
  text = sent.text;
  status = status;
  sent = Ok tt;
  output = sent.goes_on;
  sends = sent.sends;
  answer_is = refl;
}

pub answers_cut : {form : Form} (P : List ℕ → ℕ → Type 0) (old new : SinkState) (failed : Failed) → Streams form P old new (Err (streams.Sink failed))
    → Answers P 3 old new
answers_cut P old new failed sent = record {
  text = sent.text ++ sent.goes_on.0;
  status = sent.goes_on.1;
  sent = Err failed;
  output = sent.goes_on.2;
  sends = sent_less old new failed failed sent.text sent.goes_on.0 sent.sends;
  answer_is = refl;
}

pub answers_failed : {form : Form} (P : List ℕ → ℕ → Type 0) (old mid new : SinkState) (fault : RunFault) (answer : ℕ)
    → Streams form P old mid (Err (streams.Run fault)) → Answers (IsFailure form fault) answer mid new → Answers P answer old new
answers_failed P old mid new fault answer sent reported = record {
  text = sent.text ++ reported.text;
  status = reported.status;
  sent = reported.sent;
  output = sent.goes_on reported.text reported.status reported.output;
  sends = Sends-then old mid new tt reported.sent sent.text reported.text sent.sends reported.sends;
  answer_is = reported.answer_is;
}

-- ---- texts of known files that are named

-- Memory may run out for the texts that a question names.
pub question_out : (inputs : Inputs) (question : Query) (form : Form) → (known_by question ≡ [] → ⊥)
    → IsFaultOf inputs (tasks.Answer question) form Memory
question_out inputs question form some = inr (some, refl)
