-- Which input of a task a fault is of, and what that input should be.
use Rattle.std.specs.Prelude.{ℕ, List, Option, None, Some, option_map, string_bytes}
use Rattle.agent_inputs.specs.Opening.{opened_name}
use Rattle.agent_inputs.specs.declared.fault.RunFault.{RunFault}
use Rattle.agent_inputs.specs.declared.fault.RunFault.TheVariants as runs
use Rattle.agent_plans.specs.declared.plan.ConfirmedBy.{ConfirmedBy}
use Rattle.agent_plans.specs.declared.plan.ConfirmedBy.TheVariants as confirmed
use Rattle.agent_plans.specs.declared.plan.ComparisonKind.{ComparisonKind}
use Rattle.agent_plans.specs.declared.plan.ComparisonKind.TheVariants as kinds
use Rattle.agent_plans.specs.declared.plan.Query.TheVariants as queries
use Rattle.agent_plans.specs.declared.plan.Quoting.{Quoting}
use Rattle.agent_plans.specs.declared.plan.Task.{Task}
use Rattle.agent_plans.specs.declared.plan.Task.TheVariants as tasks
use Rattle.judging.specs.Inputs.{Where}
use Rattle.judging.specs.Queries.{log_named}
use Rattle.hints.specs.declared.wrong_input.ExpectedInput.{ExpectedInput}
use Rattle.hints.specs.declared.wrong_input.ExpectedInput.TheVariants as wanted

-- ---- the names of a task's files: what comes from standard input has none

abbrev pub quote_in : ConfirmedBy → Option Quoting
quote_in (confirmed.Quote quoting) = Some quoting
quote_in confirmed = None

abbrev pub quoting_of : Task → Option Quoting
quoting_of (tasks.Answer (queries.Attestation attest)) = Some attest.quoting
quoting_of (tasks.Events log shown confirmed_by) = quote_in confirmed_by
quoting_of (tasks.Boot log confirmed_by before) = quote_in confirmed_by
quoting_of task = None

abbrev pub compared_log : ComparisonKind → Option (List ℕ)
compared_log (kinds.Verdict log scope resume save) = Some (string_bytes log.name)
compared_log (kinds.Positions log) = Some (string_bytes log.name)
compared_log kinds.ListVerdict = None

-- The log; none where there are two, as of a boot and the one before it.
abbrev pub log_of : Task → Option (List ℕ)
log_of (tasks.Measure request) = Some (string_bytes request.log.name)
log_of (tasks.Answer (queries.LogRegisters log)) = Some (string_bytes log.name)
log_of (tasks.Answer (queries.Attestation attest)) = Some (string_bytes attest.log.name)
log_of (tasks.Answer (queries.Comparison judge)) = compared_log judge.kind
log_of (tasks.Events log shown confirmed_by) = opened_name (string_bytes log.name)
log_of (tasks.Boot log confirmed_by None) = opened_name (string_bytes log.name)
log_of task = None

-- The log that is judged with a list, as it is replayed.
abbrev pub judged_log : ComparisonKind → Option Where
judged_log (kinds.Verdict log scope resume save) = Some (log_named log)
judged_log (kinds.Positions log) = Some (log_named log)
judged_log kinds.ListVerdict = None

abbrev pub replayed_log : Task → Option Where
replayed_log (tasks.Answer (queries.Attestation attest)) = Some (log_named attest.log)
replayed_log (tasks.Answer (queries.Comparison judge)) = judged_log judge.kind
replayed_log task = None

-- The file that is converted.
abbrev pub converted_of : Task → Option (List ℕ)
converted_of (tasks.Convert input conversion) = opened_name (string_bytes input)
converted_of task = None

abbrev pub list_of : Task → Option (List ℕ)
list_of (tasks.Answer (queries.Comparison judge)) = Some (string_bytes judge.list)
list_of (tasks.Answer (queries.ListRegisters list)) = Some (string_bytes list)
list_of (tasks.Entries list partial) = Some (string_bytes list)
list_of task = option_map (λ quoting. string_bytes quoting.list) (quoting_of task)

abbrev pub expected_in : ConfirmedBy → Option (List ℕ)
expected_in (confirmed.Expected name) = opened_name (string_bytes name)
expected_in confirmed = None

-- The text that should state registers: EXPECTED, or what tpm2-tools printed.
abbrev pub expected_of : Task → Option (List ℕ)
expected_of (tasks.Answer (queries.Expected printed registers)) = opened_name (string_bytes printed)
expected_of (tasks.Answer (queries.Comparison judge)) = Some (string_bytes judge.expected)
expected_of (tasks.Answer (queries.Attestation attest)) = option_map string_bytes attest.expected
expected_of (tasks.Events log shown confirmed_by) = expected_in confirmed_by
expected_of (tasks.Boot log confirmed_by before) = expected_in confirmed_by
expected_of task = None

-- The public area that is shown.
abbrev pub area_of : Task → Option (List ℕ)
area_of (tasks.Answer (queries.Key area purpose part)) = opened_name (string_bytes area)
area_of task = None

-- ---- the refused input

abbrev pub text_wanted : Task → ExpectedInput
text_wanted (tasks.Answer (queries.Expected printed registers)) = wanted.Printed
text_wanted task = wanted.Expected

-- The input of this name, which should be this.
abbrev pub as_wanted : List ℕ → ExpectedInput → List ℕ × ExpectedInput
as_wanted name what = (name, what)

-- The file that has this fault, by its name, and what it should be. A fault of any other input is of no file that is taken for another.
abbrev pub refused_input : RunFault → Task → Option (List ℕ × ExpectedInput)
refused_input (runs.Log fault) task = option_map (λ name. as_wanted name wanted.Log) (log_of task)
refused_input (runs.List fault) task = option_map (λ name. as_wanted name wanted.List) (list_of task)
refused_input (runs.Replay fault) task = option_map (λ name. as_wanted name wanted.List) (list_of task)
refused_input (runs.ListText fault) task = option_map (λ name. as_wanted name wanted.Text) (converted_of task)
refused_input (runs.LogForm fault) task = option_map (λ name. as_wanted name wanted.Form) (converted_of task)
refused_input (runs.Expect fault) task = option_map (λ name. as_wanted name (text_wanted task)) (expected_of task)
refused_input (runs.Key fault) task = option_map (λ name. as_wanted name wanted.Area) (area_of task)
refused_input fault task = None
