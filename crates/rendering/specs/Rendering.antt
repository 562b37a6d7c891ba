-- Answers as text or JSON, and their exit statuses.
use Rattle.std.specs.Prelude.{ℕ, Bool, true, false, List, Option, Some, None, flat_map, ◌≡◌, ◌⊎◌, if◌then◌else◌, []}
use Rattle.pcr_values.specs.declared.selection.BankRange.{BankRange}
use Rattle.boot_verdict.specs.Names.{list_verdict_of, verdict_of}
use Rattle.known_files.specs.declared.unknown.UnknownFiles.{UnknownFiles}
use Rattle.attestations.specs.Reports.{attest_verdict_of, is_signed}
use Rattle.cells.specs.Cells.{Cell, rendered}
use Rattle.cells.specs.Values.{Member}
use Rattle.answers.specs.AttestationCells.{attestation_cell}
use Rattle.answers.specs.declared.row_order.RowOrder.{RowOrder}
use Rattle.answers.specs.declared.row_order.RowOrder.TheVariants.{Given, ResetLast}
use Rattle.answers.specs.KeyCells.{key_cell}
use Rattle.answers.specs.PositionCells.{positions_cell}
use Rattle.answers.specs.RegisterCells.{expected_cell, registers_cell}
use Rattle.answers.specs.ReportCells.{list_report_cell, prefix_cell, report_cell}
use Rattle.judging.specs.declared.request.Answer.{Answer}
use Rattle.judging.specs.declared.request.Answer.TheVariants.{Attestation, Report, Prefix, Positions, ListReport, Registers, Expected, Key}
use Rattle.judging.specs.declared.request.Answered.{Answered}
use Rattle.cells.specs.declared.writer.Form.{Form}
use Rattle.cells.specs.declared.writer.Form.TheVariants as forms
use Rattle.agent_plans.specs.declared.plan.Look.{Look}
use Rattle.agent_plans.specs.declared.plan.Look.TheVariants as looks
use Rattle.agent_plans.specs.declared.plan.Print.{Print}
use Rattle.agent_plans.specs.declared.plan.Print.TheVariants as prints
use Rattle.ima_list.specs.Lines.{line_of as entry_text}
use Rattle.entry_lines.specs.ListLines.{entry_lines}
use Rattle.measure_book.specs.Names.{exported}
use Rattle.measuring.specs.declared.file_book.Measured.{Measured}
use Rattle.growing_lists.specs.declared.saved_state.SavedState.{SavedState}
use Rattle.growing_lists.specs.CheckpointTexts.{checkpoint_text}
use Rattle.agent_inputs.specs.declared.fault.RunFault.{RunFault}
use Rattle.agent_inputs.specs.declared.fault.RunFault.TheVariants as runs
use Rattle.agent_inputs.specs.Loading.{HasReplaced, Inputs, IsNotWritten, ReplacedFiles}
use Rattle.judging.specs.Answering.{IsAnswer, IsRefusal}
use Rattle.judging.specs.Requests.{Requested}
use Rattle.rendering.specs.declared.summary.Summary.{Summary}
use Rattle.rendering.specs.Summaries.{summary_of}
use Rattle.rendering.specs.SummaryLines.{summary_line}

-- The cell of an answer, with the order of its rows, whether all is well, the registers that are required, and the entries that are not known.
abbrev pub answer_cell : RowOrder → Bool → Option (List BankRange) → Option UnknownFiles → Answer → Cell Member
answer_cell order success required unknown (Attestation report) = attestation_cell order unknown (attest_verdict_of report)
answer_cell order success required unknown (Report report) = report_cell order required unknown success (verdict_of report)
answer_cell order success required unknown (Prefix prefix) =
    prefix_cell order required unknown (verdict_of prefix.report) prefix.entries prefix.unconfirmed
answer_cell order success required unknown (Positions positions) = positions_cell required positions.items
answer_cell order success required unknown (ListReport report) = list_report_cell order required unknown (list_verdict_of report)
answer_cell order success required unknown (Registers registers) = registers_cell registers.now registers.start
answer_cell order success required unknown (Expected expected) = expected_cell expected.items
answer_cell order success required unknown (Key report part) = key_cell part report

-- The answer in this form, with its rows in this order.
abbrev pub rendered_in : RowOrder → Form → Answered → List ℕ
rendered_in order form given = rendered form (answer_cell order given.is_success given.requirement given.unknown given.answer)

-- The answer in this form.
abbrev pub render : Form → Answered → List ℕ
render form given = rendered_in Given form given

-- The answer in this form, and as text with this look: as it is, with PCRs at reset last, or in one line.
abbrev pub shown_as : Form → Look → Answered → List ℕ
shown_as forms.Json look given = render forms.Json given
shown_as forms.Text looks.Plain given = render forms.Text given
shown_as forms.Text looks.Terminal given = rendered_in ResetLast forms.Text given
shown_as forms.Text looks.Summary given = summary_line (summary_of given)

-- ---- a measurement

-- What is printed of a measurement in this form: the list as text or binary, or its registers that differ from their reset values. As JSON
-- the list is the lines of its entries.
abbrev pub print_measured : Form → Print → Measured → List ℕ
print_measured form prints.Registers given = rendered form (registers_cell given.book.banks given.reset)
print_measured forms.Text prints.Ascii given = flat_map entry_text given.book.entries
print_measured forms.Text prints.Binary given = exported given.book
print_measured forms.Json print given = entry_lines (Some forms.Json) given.book.entries

-- ---- outputs

-- The exit status of an answer: 0 if all is well; 4 where nobody verified the signature of a quote, whatever else holds; else 1.
abbrev pub answer_status : Bool → Answer → ℕ
answer_status true answer = 0
answer_status false (Attestation report) = if is_signed (attest_verdict_of report).signature then 1 else 4
answer_status false answer = 1

-- What is shown is the text of the answer to what is asked for; this is its exit status; and this is where to go on.
pub record IsShown (inputs : Inputs) (request : Requested) (text_of : Answered → List ℕ) (shown : List ℕ) (status : ℕ) (next : Option SavedState) : Type 0 where
  pub given : Answered
  pub answer : IsAnswer inputs request given
  pub text_is : shown ≡ text_of given
  pub status_is : status ≡ answer_status given.is_success given.answer
  pub next_is : next ≡ given.next

-- The file of this name, if one is given, was replaced by the text of this checkpoint, if there is one, and no other was.
abbrev pub HasSaved : ReplacedFiles → ReplacedFiles → Option (List ℕ) → Option SavedState → Type 0
HasSaved old new (Some name) (Some next) = HasReplaced old new (record { name = name; bytes = checkpoint_text next })
HasSaved old new name next = new ≡ old

-- The answer is shown. If all is well, the checkpoint of what it is on is saved, if a name is given for it; nothing else is.
abbrev pub ShowsAnswer : Inputs → Requested → Option (List ℕ) → Form → Look → ReplacedFiles → ReplacedFiles → List ℕ → ℕ → Type 0
ShowsAnswer inputs request save form look old new shown status =
    (next : Option SavedState) × IsShown inputs request (shown_as form look) shown status next × HasSaved old new save next

-- The summary is that of an answer to what is asked for.
abbrev pub IsSummaryOn : Inputs → Requested → Summary → Type 0
IsSummaryOn inputs request summary = (given : Answered) × IsAnswer inputs request given × (summary ≡ summary_of given)

-- The text of a checkpoint, if there is one.
abbrev pub state_of : Option SavedState → List ℕ
state_of None = []
state_of (Some next) = checkpoint_text next

-- The answer is given; if all is well, the text of the checkpoint of what it is on; and its summary.
abbrev pub GivesAnswer : Inputs → Requested → Form → List ℕ → ℕ → List ℕ → Summary → Type 0
GivesAnswer inputs request form shown status state summary =
    (next : Option SavedState) × (is : IsShown inputs request (render form) shown status next) × (state ≡ state_of next) × (summary ≡ summary_of is.given)

-- There is a checkpoint to be written under a name that is given, and it could not be; or memory ran out.
abbrev pub IsNotSaved : Option (List ℕ) → Option SavedState → RunFault → Type 0
IsNotSaved (Some name) (Some next) fault = IsNotWritten name fault ⊎ (fault ≡ runs.Memory)
IsNotSaved name next fault = ⊥

-- Why nothing is given: there is no answer; or there is one, and memory ran out.
abbrev pub IsRefusalOn : Inputs → Requested → RunFault → Type 0
IsRefusalOn inputs request fault = IsRefusal inputs request fault ⊎ ((fault ≡ runs.Memory) × ((given : Answered) × IsAnswer inputs request given))

-- Why nothing is shown: there is no answer; or there is one, and memory ran out, or the checkpoint could not be saved.
abbrev pub IsOutputFault : Inputs → Requested → Option (List ℕ) → RunFault → Type 0
IsOutputFault inputs request save fault =
    IsRefusalOn inputs request fault ⊎ ((given : Answered) × IsAnswer inputs request given × IsNotSaved save given.next fault)
