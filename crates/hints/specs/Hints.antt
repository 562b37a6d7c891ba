-- Why an answer is that something differs, by which a person is told what to do next.
use Rattle.std.specs.Prelude.{◌≡◌, ℕ, ◌==◌, ◌&&◌, not, Bool, true, false, if◌then◌else◌, List, length, map, find, Option, None, Some, option_map, option_and_then, is_some, IsSomeAnd, IfSome, ◌⊎◌, slice_get}
use Rattle.pcr_banks.specs.declared.alg.Alg.{Alg}
use Rattle.pcr_banks.specs.Names.{all_algs}
use Rattle.pcr_values.specs.declared.expected.Expected.{Expected}
use Rattle.pcr_values.specs.declared.selection.BankRange.{BankRange}
use Rattle.boot_verdict.specs.declared.isolation.Strays.{Strays}
use Rattle.boot_verdict.specs.declared.steps.Located.{Located}
use Rattle.boot_verdict.specs.declared.steps.Position.{Position}
use Rattle.boot_verdict.specs.declared.steps.Position.TheVariants as places
use Rattle.boot_verdict.specs.declared.report.Report.{Report}
use Rattle.boot_verdict.specs.declared.report.Row.{Row}
use Rattle.boot_verdict.specs.declared.report.State.{State}
use Rattle.boot_verdict.specs.declared.report.State.TheVariants as states
use Rattle.boot_verdict.specs.Names.{is_missing, list_register}
use Rattle.tpm_quotes.specs.Spelling.{all_registers}
use Rattle.attestations.specs.declared.report.AttestReport.{AttestReport}
use Rattle.agent_inputs.specs.Loading.{Inputs}
use Rattle.judging.specs.declared.request.Answer.{Answer}
use Rattle.judging.specs.declared.request.Answered.{Answered}
use Rattle.known_files.specs.declared.unknown.UnknownFiles.{UnknownFiles}
use Rattle.agent_inputs.specs.declared.fault.RunFault.{RunFault}
use Rattle.judging.specs.Answering.{IsAnswer, IsRefusal}
use Rattle.judging.specs.Requests.{Requested, on_prefix}
use Rattle.judging.specs.declared.request.Answer.TheVariants as answers
use Rattle.hints.specs.declared.reasons.Causes.{Causes}
use Rattle.hints.specs.declared.reasons.Grown.{Grown}
use Rattle.hints.specs.declared.reasons.JudgedBy.TheVariants.{Values, ListAlone, Places}

-- ---- rows

abbrev pub is_of_list : Expected → Bool
is_of_list expected = expected.register == list_register

-- The register has another value than is expected.
abbrev pub is_other : State → Bool
is_other (states.Differ value) = true
is_other state = false

abbrev pub is_absent : State → Bool
is_absent states.Absent = true
is_absent state = false

-- The first value that the list's register does not have, the first of another register, and the first of a register that is not there.
abbrev pub list_row : List Row → Option Expected
list_row rows = option_map (λ row. row.expected) (find (λ row. is_other row.state && is_of_list row.expected) rows)

abbrev pub log_row : List Row → Option Expected
log_row rows = option_map (λ row. row.expected) (find (λ row. is_other row.state && not (is_of_list row.expected)) rows)

abbrev pub absent_row : List Row → Option Expected
absent_row rows = option_map (λ row. row.expected) (find (λ row. is_absent row.state) rows)

-- The value is never reached; the log has no such register.
abbrev pub is_nowhere : Position → Bool
is_nowhere places.Nowhere = true
is_nowhere position = false

abbrev pub has_none : Position → Bool
has_none places.Absent = true
has_none position = false

abbrev pub list_place : List Located → Option Expected
list_place positions = option_map (λ row. row.expected) (find (λ row. is_nowhere row.position && is_of_list row.expected) positions)

abbrev pub log_place : List Located → Option Expected
log_place positions = option_map (λ row. row.expected) (find (λ row. is_nowhere row.position && not (is_of_list row.expected)) positions)

abbrev pub absent_place : List Located → Option Expected
absent_place positions = option_map (λ row. row.expected) (find (λ row. has_none row.position) positions)

-- The first register of a bank that is required, and not expected; and the first of the first such bank.
abbrev pub missing_in : List BankRange → List Expected → Alg → Option ℕ
missing_in required expected alg = find (λ register. is_missing required expected alg register) all_registers

abbrev pub first_missing : List BankRange → List Expected → Option (Alg × ℕ)
first_missing required expected =
    option_and_then (λ alg. option_map (λ register. (alg, register)) (missing_in required expected alg))
    (find (λ alg. is_some (missing_in required expected alg)) all_algs)

abbrev pub missing_of : Option (List BankRange) → List Expected → Option (Alg × ℕ)
missing_of None expected = None
missing_of (Some required) expected = first_missing required expected

-- ---- causes

abbrev pub no_strays : Strays
no_strays = record { event = None; entry = None }

abbrev pub no_cause : Causes
no_cause = record {
  is_empty = false;
  is_bare = false;
  judged = Values;
  list = None;
  log = None;
  absent = None;
  missing = None;
  aggregate = None;
  strays = no_strays;
  values = None;
  unknown = None;
}

-- What rows tell, where these registers are required.
abbrev pub causes_in : Option (List BankRange) → List Row → Causes
causes_in required rows = record no_cause {
  is_bare = length rows == 0;
  list = list_row rows;
  log = log_row rows;
  absent = absent_row rows;
  missing = missing_of required (map (λ row. row.expected) rows);
}

abbrev pub causes_at : Option (List BankRange) → List Located → Causes
causes_at required positions = record no_cause {
  is_bare = length positions == 0;
  judged = Places;
  list = list_place positions;
  log = log_place positions;
  absent = absent_place positions;
  missing = missing_of required (map (λ row. row.expected) positions);
}

abbrev pub causes_of_report : Option (List BankRange) → Report → Causes
causes_of_report required report = record (causes_in required report.rows.items) {
  is_empty = report.entries == 0;
  aggregate = Some report.aggregate;
  strays = report.strays;
}

-- By a quote registers need not be expected.
abbrev pub causes_of_quote : AttestReport → Causes
causes_of_quote report = record (causes_of_report None report.report) {
  is_bare = false;
  values = if report.is_quoted then None else Some report.expected;
}

-- Those that the answer itself tells.
abbrev pub causes_by : Option (List BankRange) → Answer → Causes
causes_by required (answers.Report report) = causes_of_report required report
causes_by required (answers.Prefix prefix) = causes_of_report required prefix.report
causes_by required (answers.Attestation report) = causes_of_quote report
causes_by required (answers.ListReport report) = record (causes_in required report.rows.items) {
  is_empty = report.entries == 0;
  judged = ListAlone;
  strays = report.strays;
}
causes_by required (answers.Positions positions) = causes_at required positions.items
causes_by required answer = no_cause

-- The first entry that is not known.
abbrev pub first_unknown : Option UnknownFiles → Option ℕ
first_unknown unknown = option_and_then (λ unknown. slice_get unknown.numbers.items 0) unknown

-- Why the answer is that something differs.
abbrev pub causes_of : Answered → Causes
causes_of given = record (causes_by given.requirement given.answer) { unknown = first_unknown given.unknown }

-- Of which part of the list the values are, by an answer that is on a prefix of it.
abbrev pub grown_by : Answer → Option Grown
grown_by (answers.Prefix prefix) = Some (record { confirmed = prefix.report.entries; entries = prefix.entries })
grown_by (answers.Attestation report) =
    option_map (λ whole. record { confirmed = report.report.entries; entries = whole.entries }) report.prefix
grown_by answer = None

-- ---- a second look

-- What is asked for differs still, for these causes.
abbrev pub IsSeen : Inputs → Requested → Causes → Type 0
IsSeen inputs request causes =
    (given : Answered) × IsAnswer inputs request given × (given.is_success ≡ false) × (causes ≡ causes_of given)

-- It differs no longer, or cannot be judged again.
abbrev pub IsNotSeen : Inputs → Requested → Type 0
IsNotSeen inputs request =
    ((given : Answered) × IsAnswer inputs request given × (given.is_success ≡ true)) ⊎ ((fault : RunFault) × IsRefusal inputs request fault)

-- All is well with a prefix of the list, which has so many of its entries.
abbrev pub IsGrown : Inputs → Requested → Grown → Type 0
IsGrown inputs request grown =
    IsSomeAnd (on_prefix request)
    (λ request. (given : Answered) × IsAnswer inputs request given × (given.is_success ≡ true) × (grown_by given.answer ≡ Some grown))

-- All is not well with any prefix, or none can be judged; or it is not asked of a whole list.
abbrev pub IsNotGrown : Inputs → Requested → Type 0
IsNotGrown inputs request =
    IfSome (on_prefix request)
    (λ request. ((given : Answered) × IsAnswer inputs request given × ((given.is_success ≡ false) ⊎ (grown_by given.answer ≡ None)))
    ⊎ ((fault : RunFault) × IsRefusal inputs request fault))
