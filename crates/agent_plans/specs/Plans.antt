-- What is to be done, and the plans that request it.
use Rattle.std.specs.Prelude.{◌≡◌, ◌≤◌, ◌<◌, ◌^◌, ◌&&◌, not, Bool, false, true, Option, None, Some, is_some, String, vec_len}
use Rattle.std.specs.Global.{Global, Vec}
pub use Rattle.agent_plans.specs.declared.plan.LogFile.{LogFile}
use Rattle.agent_plans.specs.declared.plan.Scope.TheVariants.{Whole}
use Rattle.agent_plans.specs.declared.plan.ConfirmedBy.{ConfirmedBy}
use Rattle.agent_plans.specs.declared.plan.ConfirmedBy.TheVariants.{Nothing}
pub use Rattle.agent_plans.specs.declared.plan.Look.{Look}
use Rattle.agent_plans.specs.declared.plan.Look.TheVariants.{Plain}
pub use Rattle.agent_plans.specs.declared.plan.DataShown.{DataShown}
use Rattle.agent_plans.specs.declared.plan.DataShown.TheVariants.{Size, Bytes, Meaning}
pub use Rattle.cells.specs.declared.writer.Form.{Form}
use Rattle.cells.specs.declared.writer.Form.TheVariants as forms
pub use Rattle.agent_plans.specs.declared.plan.ComparisonOptions.{ComparisonOptions}
pub use Rattle.agent_plans.specs.declared.plan.ComparisonKind.{ComparisonKind}
use Rattle.agent_plans.specs.declared.plan.ComparisonKind.TheVariants as kinds
pub use Rattle.agent_plans.specs.declared.plan.Measurement.{Measurement}
pub use Rattle.agent_plans.specs.declared.plan.Plan.{Plan}
use Rattle.agent_plans.specs.declared.plan.Plan.TheVariants as plans
pub use Rattle.agent_plans.specs.declared.plan.Print.{Print}
use Rattle.agent_plans.specs.declared.plan.Print.TheVariants.{Binary}
use Rattle.agent_plans.specs.declared.plan.Query.{Query}
use Rattle.agent_plans.specs.declared.plan.Query.TheVariants as queries
pub use Rattle.agent_plans.specs.declared.plan.Task.{Task}
use Rattle.agent_plans.specs.declared.plan.Task.TheVariants as tasks

-- The log of this name, which is replayed as it stands.
abbrev pub plain_log : String Global → LogFile
plain_log name = record { name = name; hcrtm = false }

-- The verdict on a log and a whole list, and nothing more.
abbrev pub whole_verdict : LogFile → String Global → String Global → ComparisonOptions
whole_verdict log list expected =
    record {
      kind = kinds.Verdict log Whole None None;
      list = list;
      expected = expected;
      required = None;
      known = None;
      old_kernel = false;
      explained = false;
      look = Plain;
    }

-- The task that a plan requests, and the form in which its result is shown.
abbrev pub task_of : Plan → Task × Form
task_of plans.Registers = (tasks.Registers, forms.Text)
task_of (plans.Measure alg template workers limit print log files) = (
  tasks.Measure
      (record { alg = alg; template = template; workers = workers; limit = limit; print = print; log = plain_log log; files = files; names = None }),
  forms.Text,
)
task_of (plans.Verify log list expected) = (tasks.Answer (queries.Comparison (whole_verdict (plain_log log) list expected)), forms.Text)
task_of (plans.Show list) = (tasks.Entries list false, forms.Text)
task_of (plans.Help text) = (tasks.Help text, forms.Text)
task_of (plans.Task task form) = (task, form)

-- ---- one plan for each

-- The verdict on a log that is replayed as it stands and on a whole list, and nothing more.
abbrev pub is_plain_verdict : ComparisonKind → Option (String Global) → Option (Vec (String Global)) → Bool → Bool → Look → Bool
is_plain_verdict (kinds.Verdict log Whole None None) None None false false Plain = not log.hcrtm
is_plain_verdict kind required known old_kernel explained look = false

-- Some other plan than `Task` requests this, as text.
abbrev pub has_plan : Task → Bool
has_plan tasks.Registers = true
has_plan (tasks.Answer (queries.Comparison judge)) = is_plain_verdict judge.kind judge.required judge.known judge.old_kernel judge.explained judge.look
has_plan (tasks.Measure request) = not (is_some request.names) && not request.log.hcrtm
has_plan (tasks.Entries list partial) = not partial
has_plan (tasks.Help text) = true
has_plan task = false

-- A plan `Task` is only for what no other plan requests.
abbrev pub IsOneOf : Plan → Type 0
IsOneOf (plans.Task task forms.Text) = has_plan task ≡ false
IsOneOf plan = Unit {0}

-- ---- looks

-- How the answer to a question is shown as text: plain, unless it is a verdict that is shown in another way.
abbrev pub look_of : Query → Look
look_of (queries.Comparison judge) = judge.look
look_of (queries.Attestation attest) = attest.look
look_of question = Plain

-- ---- ranges

-- What is printed of a measurement can be shown in this form: there is no JSON of the binary list.
abbrev pub HasForm : Form → Print → Type 0
HasForm forms.Json Binary = ⊥
HasForm form print = Unit {0}

-- What is shown of a log's events can be shown in this form, and this can tell which of it is confirmed: what data says is shown as JSON in any
-- case, as text if this is asked for; and nothing tells it where what data says is not shown.
abbrev pub HasEventsForm : Form → DataShown → ConfirmedBy → Type 0
HasEventsForm forms.Json Meaning confirmed_by = ⊥
HasEventsForm forms.Json shown confirmed_by = Unit {0}
HasEventsForm forms.Text Meaning confirmed_by = Unit {0}
HasEventsForm forms.Text shown Nothing = Unit {0}
HasEventsForm forms.Text shown confirmed_by = ⊥

-- A measurement has 1 to 8 workers, a limit of at least one record, and fewer than 2^32 files named by arguments.
abbrev pub IsWithinLimits : Form → Measurement → Type 0
IsWithinLimits form request =
    (1 ≤ request.workers) × (request.workers ≤ 8) × (1 ≤ request.limit) × (vec_len request.files < 2 ^ 32) × HasForm form request.print

-- Texts of known files are named only for a verdict, and only where registers are required.
abbrev pub TakesKnown : ComparisonKind → Option (String Global) → Option (Vec (String Global)) → Type 0
TakesKnown kind required None = Unit {0}
TakesKnown (kinds.Positions log) required (Some names) = ⊥
TakesKnown kind None (Some names) = ⊥
TakesKnown kind (Some text) (Some names) = Unit {0}

-- So it is in a question.
abbrev pub NamesKnown : Query → Type 0
NamesKnown (queries.Comparison judge) = TakesKnown judge.kind judge.required judge.known
NamesKnown question = Unit {0}

-- As JSON a verdict has no other look than the plain one.
abbrev pub HasLook : Form → Look → Type 0
HasLook form look = form ≡ forms.Json → look ≡ Plain

-- What is to be done can be done, and shown in this form: there is no JSON of a file that is converted.
abbrev pub IsWithin : Form → Task → Type 0
IsWithin form (tasks.Answer question) = NamesKnown question × HasLook form (look_of question)
IsWithin form (tasks.Measure request) = IsWithinLimits form request
IsWithin form (tasks.Events log shown confirmed_by) = HasEventsForm form shown confirmed_by
IsWithin forms.Json (tasks.Convert input conversion) = ⊥
IsWithin form task = Unit {0}

-- What the plan requests is within its ranges.
abbrev pub IsWithinRanges : Plan → Type 0
IsWithinRanges plan = IsWithin (task_of plan).1 (task_of plan).0
