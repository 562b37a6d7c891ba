-- What the program is asked for, sends and returns.
use Rattle.std.specs.Prelude.{◌≡◌, ℕ, ◌⊎◌, List, [], string_bytes, ◌++◌, None, Some, option_map, Result, Ok, Err, String}
use Rattle.std.specs.Global.{Global, Vec}
use Rattle.byte_streams.specs.declared.streams.Failed.{Failed}
use Rattle.byte_streams.specs.Streams.{SinkState, Sends}
use Rattle.agent_inputs.specs.declared.fault.RunFault.{RunFault}
use Rattle.agent_inputs.specs.declared.fault.RunFault.TheVariants as runs
use Rattle.agent_inputs.specs.Faults.{IsArgumentsFault, fault_of_list}
use Rattle.agent_inputs.specs.Loading.{Inputs, IsInputFault, IsNotRead, IsTooLong, OfInput, ReplacedFiles}
use Rattle.agent_inputs.specs.Opening.{OfReplayed, opened_name}
use Rattle.cells.specs.declared.writer.Form.{Form}
use Rattle.cells.specs.declared.writer.Form.TheVariants as forms
use Rattle.agent_plans.specs.declared.plan.Plan.{Plan}
use Rattle.agent_plans.specs.declared.plan.Task.{Task}
use Rattle.agent_plans.specs.declared.plan.Task.TheVariants as tasks
use Rattle.agent_plans.specs.Plans.{IsWithinRanges, look_of, task_of}
use Rattle.command_line.specs.Arguments.{IsRequestedBy}
use Rattle.measuring.specs.declared.file_book.Measured.{Measured}
use Rattle.measuring.specs.Measuring.{IsMeasured, IsMeasuringFault}
use Rattle.rendering.specs.declared.outputs.Output.{Output}
use Rattle.rendering.specs.Rendering.{IsOutputFault, ShowsAnswer, print_measured}
use Rattle.entry_lines.specs.declared.entry_lines.EntriesFault.{EntriesFault}
use Rattle.entry_lines.specs.declared.entry_lines.EntriesFault.TheVariants as entries
use Rattle.ima_agent.specs.declared.streams.StreamFault.{StreamFault}
use Rattle.ima_agent.specs.declared.streams.StreamFault.TheVariants as streams
use Rattle.rendering.specs.FaultTexts.{fault_line, fault_status, IsFailure, IsReportedAsJson}
use Rattle.judging.specs.Queries.{known_by, requested_by, save_by}
use Rattle.ima_agent.specs.Converting.{IsConverted, IsNotConverted}
use Rattle.ima_agent.specs.Matching.{opened_log}
use Rattle.ima_agent.specs.Showing.{IsFaultOfList, IsListBrokenOff, IsRefusedFor, ShowsHexadecimal, ShowsListOf, reads_first, version_text}
use Rattle.ima_agent.specs.ShowingBoot.{IsNoBootFor, ShowsBoot}
use Rattle.ima_agent.specs.ShowingEvents.{BreaksOffAfterEvents, IsNoneShownFor, ShowsEvents, plain_lines}

-- ---- a task

-- This text and this exit status are shown of the task in this form, which asks no question.
abbrev pub Shows : Inputs → Task → Form → List ℕ → ℕ → Type 0
Shows inputs tasks.Registers form shown status = OfInput inputs None (λ text. ShowsHexadecimal form text shown status)
Shows inputs (tasks.Answer question) form shown status = ⊥
Shows inputs (tasks.Measure request) form shown status =
    ((given : Measured) × IsMeasured inputs request given × (shown ≡ print_measured form request.print given)) × (status ≡ 0)
Shows inputs (tasks.Events log requested confirmed_by) form shown status =
    OfReplayed inputs (opened_log log) log.hcrtm (λ bytes. ShowsEvents inputs form (plain_lines form requested) confirmed_by bytes shown status)
Shows inputs (tasks.Boot log confirmed_by before) form shown status =
    OfReplayed inputs (opened_log log) log.hcrtm
    (λ bytes. ShowsBoot inputs form confirmed_by log.hcrtm (option_map string_bytes before) bytes shown status)
Shows inputs (tasks.Convert input conversion) form shown status =
    OfInput inputs (opened_name (string_bytes input)) (λ content. IsConverted conversion content shown) × (status ≡ 0)
Shows inputs (tasks.Entries list partial) form shown status = ShowsListOf (reads_first form partial) form inputs (string_bytes list) shown status
Shows inputs (tasks.Help text) form shown status = (shown ≡ string_bytes text) × (status ≡ 0)
Shows inputs tasks.Version form shown status = (shown ≡ version_text) × (status ≡ 0)

-- This text and this exit status are the output of the task in this form, with these inputs, and this was saved before and after. A question
-- is answered; with any other output nothing is saved.
abbrev pub IsOutputFor : Inputs → Task → Form → ReplacedFiles → ReplacedFiles → List ℕ → ℕ → Type 0
IsOutputFor inputs (tasks.Answer question) form old new shown status =
    ShowsAnswer inputs (requested_by question) (save_by question) form (look_of question) old new shown status
IsOutputFor inputs task form old new shown status = Shows inputs task form shown status × (new ≡ old)

-- The fault may come of the task in this form, with these inputs. As JSON, or where this is asked for, any list is shown as far as it goes; as JSON
-- so is a damaged log, unless registers are compared. Memory may run out for the names of known files, if there are some.
abbrev pub IsFaultOf : Inputs → Task → Form → RunFault → Type 0
IsFaultOf inputs tasks.Registers form fault = IsInputFault inputs None fault ⊎ OfInput inputs None (λ text. IsRefusedFor text fault)
IsFaultOf inputs (tasks.Answer question) form fault =
    IsOutputFault inputs (requested_by question) (save_by question) fault
    ⊎ ((known_by question ≡ [] → ⊥) × (fault ≡ runs.Memory))
IsFaultOf inputs (tasks.Measure request) form fault = IsMeasuringFault inputs request fault
IsFaultOf inputs (tasks.Events log requested confirmed_by) form fault =
    IsInputFault inputs (opened_log log) fault
    ⊎ OfReplayed inputs (opened_log log) log.hcrtm (λ bytes. IsNoneShownFor inputs form (plain_lines form requested) confirmed_by bytes fault)
IsFaultOf inputs (tasks.Boot log confirmed_by before) form fault =
    IsInputFault inputs (opened_log log) fault
    ⊎ OfReplayed inputs (opened_log log) log.hcrtm
    (λ bytes. IsNoBootFor inputs confirmed_by log.hcrtm (option_map string_bytes before) bytes fault)
IsFaultOf inputs (tasks.Convert input conversion) form fault =
    IsInputFault inputs (opened_name (string_bytes input)) fault
    ⊎ OfInput inputs (opened_name (string_bytes input)) (λ content. IsNotConverted conversion content fault)
IsFaultOf inputs (tasks.Entries list partial) form fault = IsFaultOfList (reads_first form partial) inputs (string_bytes list) fault
IsFaultOf inputs task form fault = ⊥

-- The output of a task that is written while its input is read, if it fails in between: what was read till then, and then the fault. A list that is
-- read through before had none then.
abbrev pub IsBrokenOff : Inputs → Task → Form → List ℕ → ℕ → Type 0
IsBrokenOff inputs (tasks.Events log requested confirmed_by) form text status =
    OfReplayed inputs (opened_log log) log.hcrtm (λ bytes.
    BreaksOffAfterEvents inputs form (plain_lines form requested) confirmed_by bytes text status)
IsBrokenOff inputs (tasks.Entries list partial) form text status =
    IsListBrokenOff (reads_first form partial) form inputs (string_bytes list) text status
IsBrokenOff inputs task form text status = ⊥

-- The text to be written for the task, the status if the sink takes it all, and what was saved before and after: the task's output, with
-- what is saved with it. Or else nothing is saved, and the text and the status are those of a fault that may come of the task; or the
-- text is the output as far as it came, and the fault.
abbrev pub IsOutcome : Inputs → Task → Form → ReplacedFiles → ReplacedFiles → List ℕ → ℕ → Type 0
IsOutcome inputs task form old new text status =
    IsOutputFor inputs task form old new text status
    ⊎ ((fault : RunFault) × IsFaultOf inputs task form fault × IsFailure form fault text status × (new ≡ old))
    ⊎ (IsBrokenOff inputs task form text status × (new ≡ old))

-- ---- arguments

-- What is written for the arguments: the outcome of what they request; or if they are refused, the fault's line and its status, and nothing
-- is saved.
abbrev pub IsOutput : Inputs → List (String Global) → ReplacedFiles → ReplacedFiles → List ℕ → ℕ → Type 0
IsOutput inputs arguments old new text status =
    ((plan : Plan) × IsRequestedBy arguments plan × IsWithinRanges plan × IsOutcome inputs (task_of plan).0 (task_of plan).1 old new text status)
    ⊎ ((fault : RunFault) × IsArgumentsFault fault × (text ≡ fault_line fault) × (status ≡ fault_status fault) × (new ≡ old))

-- The status after an output was sent; 3 if the sink failed.
abbrev pub status_after : {A E : Type 0} → Result A E → ℕ → ℕ
status_after (Ok value) status = status
status_after (Err fault) status = 3

-- The returned status: an output was sent, and `answer` is its status, or 3 if the sink failed.
pub record Answers (IsWanted : List ℕ → ℕ → Type 0) (answer : ℕ) (old new : SinkState) : Type 0 where
  pub text : List ℕ
  pub status : ℕ
  pub sent : Result (Unit {0}) Failed
  pub output : IsWanted text status
  pub sends : Sends old new sent text
  pub answer_is : answer ≡ status_after sent status

-- The output for the arguments; if they could not be obtained, that of a program out of memory, and nothing is saved.
abbrev pub IsOutputOf : {E : Type 0} → Inputs → Result (Vec (String Global)) E → ReplacedFiles → ReplacedFiles → List ℕ → ℕ → Type 0
IsOutputOf inputs (Ok arguments) old new text status = IsOutput inputs arguments.items old new text status
IsOutputOf inputs (Err fault) old new text status =
    (text ≡ fault_line runs.Memory) × (status ≡ fault_status runs.Memory) × (new ≡ old)

-- ---- outputs that are sent, some of them while their input is read

-- What the sink says of a call with this result: it failed only at `Sink`.
abbrev pub as_sent : Result ℕ StreamFault → Result (Unit {0}) Failed
as_sent (Ok status) = Ok tt
as_sent (Err (streams.Sink failed)) = Err failed
as_sent (Err (streams.Run fault)) = Ok tt

-- What is asked for, after this text was sent: the text itself, with the returned status; the text with the line of the fault of the run, in
-- this form; or the text with more that the sink did not take.
abbrev pub GoesOn : Form → (List ℕ → ℕ → Type 0) → List ℕ → Result ℕ StreamFault → Type 0
GoesOn form IsWanted text (Ok status) = IsWanted text status
GoesOn form IsWanted text (Err (streams.Sink failed)) = (rest : List ℕ) × (status : ℕ) × IsWanted (text ++ rest) status
GoesOn form IsWanted text (Err (streams.Run fault)) = (last : List ℕ) (status : ℕ) → IsFailure form fault last status → IsWanted (text ++ last) status

-- A text was sent, and with the line of a fault, if there is one, it is what is asked for.
pub record Streams (form : Form) (IsWanted : List ℕ → ℕ → Type 0) (old new : SinkState) (result : Result ℕ StreamFault) : Type 0 where
  pub text : List ℕ
  pub sends : Sends old new (as_sent result) text
  pub goes_on : GoesOn form IsWanted text result

-- This text was sent, and this is its status.
abbrev pub SendsText : List ℕ → ℕ → SinkState → SinkState → Result ℕ StreamFault → Type 0
SendsText text status old new (Ok answer) = Sends {A = Unit {0}} {E = Failed} old new (Ok tt) text × (answer ≡ status)
SendsText text status old new (Err (streams.Sink failed)) = Sends {A = Unit {0}} old new (Err failed) text
SendsText text status old new (Err (streams.Run fault)) = ⊥

-- The output was sent; or there is none, and nothing was.
abbrev pub SendsOutput : Result Output RunFault → SinkState → SinkState → Result ℕ StreamFault → Type 0
SendsOutput (Ok output) old new result = SendsText output.text.items output.status old new result
SendsOutput (Err fault) old new result = (new ≡ old) × (result ≡ Err (streams.Run fault))

-- Why no more of the list in the input of this name was sent, which this stopped.
abbrev pub IsStoppedBy : List ℕ → EntriesFault → StreamFault → Type 0
IsStoppedBy name entries.Sink reason = (failed : Failed) × (reason ≡ streams.Sink failed)
IsStoppedBy name (entries.List first) reason = reason ≡ streams.Run (fault_of_list first)
IsStoppedBy name entries.Source reason = (fault : RunFault) × (IsNotRead name fault ⊎ (fault ≡ runs.Memory)) × (reason ≡ streams.Run fault)
IsStoppedBy name entries.TooLong reason = (fault : RunFault) × (IsTooLong name fault ⊎ (fault ≡ runs.Memory)) × (reason ≡ streams.Run fault)
IsStoppedBy name entries.Memory reason = reason ≡ streams.Run runs.Memory
