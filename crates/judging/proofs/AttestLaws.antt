-- Attestations.
use Rattle.std.proofs.Common.{◌≡◌, ◌⊎◌, List, true, false, Option, None, Some, Ok, Err, refl, ap, inl, inr}
use Rattle.std.specs.Prelude.{IfErr, IfOk, IfSome, IsSomeAnd, Result, is_some}
use Rattle.std.proofs.lemmas.Bool.{both_ways, true≢false}
use Rattle.pcr_values.specs.declared.selection.BankRange.{BankRange}
use Rattle.pcr_values.proofs.SelectionLaws.{ranges_once}
use Rattle.boot_verdict.specs.Names.{IsRequirementText}
use Rattle.attestations.specs.declared.policy.PolicyFault.{PolicyFault}
use Rattle.attestations.specs.Policies.{policy_fault}
use Rattle.agent_inputs.specs.declared.fault.RunFault.{RunFault}
use Rattle.judging.specs.declared.request.Answered.{Answered}
use Rattle.growing_lists.specs.declared.saved_state.SavedState.{SavedState}
use Rattle.tpm_quotes.specs.Spelling.{TpmQuote}
use Rattle.agent_inputs.specs.Loading.{Inputs}
use Rattle.judging.specs.Answering.{AreTaken, IsCheckpointText, IsResumedState, IsNoCheckpoint, IsNoResumedState, IsOfQuote, terms_with}
use Rattle.judging.specs.Inputs.{IsInputFault, OfInput, Where}
use Rattle.judging.specs.Requests.{AttestRequested}

-- What holds of an answer, or of a fault, so far as it is one.
pub of_given : (result : Result Answered RunFault) (P Q : Answered → Type 0) → ((given : Answered) → P given → Q given) → IfOk result P
    → IfOk result Q
of_given (Ok given) P Q f is = f given is
of_given (Err fault) P Q f is = tt

pub of_fault : (result : Result Answered RunFault) (P Q : RunFault → Type 0) → ((fault : RunFault) → P fault → Q fault) → IfErr result P
    → IfErr result Q
of_fault (Ok given) P Q f is = tt
of_fault (Err fault) P Q f is = f fault is

pub none_when : {A : Type 0} (value : Option A) → is_some value ≡ false → value ≡ None
none_when None e = refl
none_when (Some x) e = absurd cc

-- If with the ranges that a text spells the terms are refused, no other ranges are taken.
pub not_taken : (asked : AttestRequested) (ranges other : List BankRange) → AreTaken asked other
    → IsRequirementText asked.required ranges
    → is_some (policy_fault (terms_with asked ranges)) ≡ true → ⊥
not_taken asked ranges other taken spells refused =
    let same : other ≡ ranges = ranges_once asked.required other ranges taken.0.0 spells.0 in
    let none : policy_fault (terms_with asked ranges) ≡ None = rw same at taken.1 in
    both_ways (is_some (policy_fault (terms_with asked ranges))) (ap (λ (f : Option PolicyFault). is_some f) none) refused

-- Why no state is read is why none of the quote's boot is known.
pub not_known : (inputs : Inputs) (quote : TpmQuote) (resume : Option Where) (fault : RunFault)
    → IsSomeAnd resume (λ place. IsInputFault inputs place fault ⊎ OfInput inputs place (λ text. IsNoCheckpoint text fault))
    → IsNoResumedState inputs quote resume fault
not_known inputs quote None fault why = why
not_known inputs quote (Some place) fault (inl input) = inl input
not_known inputs quote (Some place) fault (inr text) = inr (inl text)

-- If a state is not of the quote's boot, there is one.
pub other_counts : (inputs : Inputs) (resume : Option Where) (state : Option SavedState) (quote : TpmQuote) → IsResumedState inputs resume state
    → (IfSome state (IsOfQuote quote) → ⊥)
    → IsSomeAnd resume (λ place. OfInput inputs place (λ text. (state : SavedState) × IsCheckpointText text state × (IsOfQuote quote state → ⊥)))
other_counts inputs None None quote is other = absurd (other tt)
other_counts inputs None (Some state) quote is other = absurd (true≢false (ap (λ (s : Option SavedState). is_some s) is))
other_counts inputs (Some place) None quote is other = absurd is
other_counts inputs (Some place) (Some state) quote is other = (is.0, is.1, (state, is.2, other))
