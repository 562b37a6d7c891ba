-- What is replayed of a log in a file whose H-CRTM event tells where the machine started is what its input holds; and a source over loaded bytes.
use Rattle.std.proofs.Common.{◌≡◌, ◌⊎◌, ℕ, List, Option, None, Some, Ok, Err, Result, ap, subst, sym, inl, inr, true, arith, ◌∙◌}
use Rattle.std.specs.Prelude.{IfSome, MatchResult, option_map}
use Rattle.byte_streams.specs.Memory.{slice_source_rest, slice_source_state}
use Rattle.byte_streams.specs.declared.memory.SliceSource.{SliceSource}
use Rattle.agent_inputs.specs.declared.fault.RunFault.{RunFault}
use Rattle.agent_inputs.specs.Loading.{GivesAll, Inputs}
use Rattle.agent_inputs.specs.Opening.{IsReplayedOf, told}
use Rattle.judging.specs.Answering.{GivesInput}
use Rattle.judging.specs.Inputs.{HcrtmLogOf, Holds, IsInputFault, IsNotOpened, Where, held_in}

told_held : (known : Option (List ℕ)) (log content : List ℕ) → IfSome known (λ all. log ≡ all) → content ≡ told log
    → IfSome (option_map told known) (λ all. content ≡ all)
told_held None log content held is = tt
told_held (Some all) log content held is = is ∙ ap told held

pub replayed_is_held : (inputs : Inputs) (name content : List ℕ) → IsReplayedOf inputs (Some name) true content
    → Holds inputs (HcrtmLogOf name) content
replayed_is_held inputs name content is = told_held (inputs.held (Some name)) is.log content is.held is.content_is

-- A source over all bytes of an input gives it.
gives_held : (known : Option (List ℕ)) (source : SliceSource) → IfSome known (λ all. slice_source_rest source ≡ all)
    → GivesAll known (slice_source_state source)
gives_held None source is = tt
gives_held (Some all) source is = ap (λ (l : List ℕ). Some l) is

pub slice_gives_input : (inputs : Inputs) (place : Where) (old new : SliceSource) → Holds inputs place (slice_source_rest old)
    → GivesInput inputs place (slice_source_state old) (slice_source_state new)
slice_gives_input inputs place old new held = record {
  all = gives_held (held_in inputs place) old held;
  failing = λ failed. absurd (omega (arith, failed.counts));
}

-- Such a log that is not loaded is not opened.
pub not_loaded : (inputs : Inputs) (place : Where) (name : List ℕ) (fault : RunFault) → place ≡ HcrtmLogOf name → IsInputFault inputs place fault
    → IsNotOpened inputs place fault
not_loaded inputs place name fault is input =
    subst (λ (w : Where). IsNotOpened inputs w fault) (sym is) (subst (λ (w : Where). IsInputFault inputs w fault) is input)

-- A reason among two of which each is a third.
pub either_so : {Q R N : RunFault → Type 0} → ((fault : RunFault) → Q fault → N fault) → ((fault : RunFault) → R fault → N fault) → (fault : RunFault)
    → Q fault ⊎ R fault → N fault
either_so first second fault (inl q) = first fault q
either_so first second fault (inr r) = second fault r

-- A result with a reason that is another.
pub found_so : {A : Type 0} (result : Result A RunFault) (P : A → Type 0) (Q N : RunFault → Type 0) → ((fault : RunFault) → Q fault → N fault)
    → MatchResult result P Q → MatchResult result P N
found_so (Ok value) P Q N so is = is
found_so (Err fault) P Q N so is = so fault is
