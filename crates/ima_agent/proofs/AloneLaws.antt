-- The fault of a list whose bytes are known.
use Rattle.std.proofs.Common.{◌≡◌, ◌⊎◌, ℕ, ◌<◌, ◌≤◌, List, length, Option, Some, Ok, Err, sym, ap, subst, ◌∙◌, arith, inl, inr}
use Rattle.std.specs.Prelude.{IfSome}
use Rattle.boot_verdict.proofs.ReplayLaws.{no_fault}
use Rattle.ima_list.specs.Names.{IsReading, ListEntry}
use Rattle.cells.specs.declared.writer.Form.TheVariants.{Text}
use Rattle.agent_inputs.specs.declared.fault.RunFault.{RunFault}
use Rattle.agent_inputs.specs.declared.fault.RunFault.TheVariants as runs
use Rattle.agent_inputs.specs.Loading.{Holds, HoldsTooMuch, Inputs, IsReadFailure, input_limit}
use Rattle.ima_agent.specs.Showing.{IsWholeList, StopsInFile}

-- These are the bytes that are known.
are_known : (known : Option (List ℕ)) (list bytes : List ℕ) → known ≡ Some list → IfSome known (λ all. bytes ≡ all) → bytes ≡ list
are_known known list bytes is held = subst (λ (k : Option (List ℕ)). IfSome k (λ all. bytes ≡ all)) is held

too_many : (known : Option (List ℕ)) (list : List ℕ) → known ≡ Some list → IfSome known (λ all. input_limit < length all) → input_limit < length list
too_many known list is long = subst (λ (k : Option (List ℕ)). IfSome k (λ all. input_limit < length all)) is long

pub alone_if_known : (inputs : Inputs) (name list text : List ℕ) (fault : RunFault) → inputs.held (Some name) ≡ Some list
    → IsWholeList inputs name → StopsInFile (Some Text) inputs name text fault → IsReadFailure inputs (Some name) fault ⊎ (fault ≡ runs.Memory)
alone_if_known inputs name list text fault known (bytes, held, (within, (entries, reading))) (inl (others, others_held, fails)) =
    let same = are_known (inputs.held (Some name)) list others known others_held
    ∙ sym (are_known (inputs.held (Some name)) list bytes known held) in
    absurd (no_fault reading (rw same at fails.reading))
alone_if_known inputs name list text fault known (bytes, held, (within, (entries, reading))) (inr breaks) = elim breaks.ends [
  | inl unread ↦ inl unread.0
  | inr (inl long) ↦
      let same = are_known (inputs.held (Some name)) list bytes known held in
      absurd (omega (arith, within, ap (λ (l : List ℕ). length l) same, too_many (inputs.held (Some name)) list known long.1))
  | inr (inr memory) ↦ inr memory
]
