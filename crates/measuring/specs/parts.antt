-- What is known of names before all of them are, and of files as jobs.
use Rattle.std.specs.Prelude.{ℕ, ◌<◌, ◌≤◌, List, length, map, slice_get, Some, IfSome, ⊤, string_bytes}
use Rattle.std.specs.Borrow.{Bor}
use Rattle.hash_workers.specs.declared.fault.JobFault.{JobFault}
use Rattle.hash_workers.specs.declared.fault.JobFault.TheVariants.{TooLong, Source, Memory}
use Rattle.agent_plans.specs.declared.plan.Measurement.{Measurement}
use Rattle.agent_inputs.specs.Loading.{Holds, Inputs, input_limit}
use Rattle.measuring.specs.Measuring.{Contents}

-- The names that are borrowed.
abbrev pub names_borrowed : List (Bor (List ℕ)) → List (List ℕ)
names_borrowed names = map (λ name. name.now) names

-- The text of further names, if there is one, holds these bytes.
abbrev pub IsTextFor : Inputs → Measurement → List ℕ → Type 0
IsTextFor inputs request text = (length text ≤ input_limit) × IfSome request.names (λ more. Holds inputs (Some (string_bytes more.text)) text)

-- Why the file of this number has no operation: it is too long, it could not be opened or read (both only as far as this is known), or
-- memory ran out.
abbrev pub IsFileFailure : Contents → (List ℕ → Type 0) → List (List ℕ) → ℕ → JobFault → Type 0
IsFileFailure held Fails names number TooLong = IfSome (slice_get names number) (λ name. IfSome (held name) (λ all. input_limit < length all))
IsFileFailure held Fails names number Source = IfSome (slice_get names number) Fails
IsFileFailure held Fails names number Memory = ⊤
