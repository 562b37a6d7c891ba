-- What differs by where the machine started, which the H-CRTM's event of a log tells (TPM 2.0 Library, part 1, 34.3).
use Rattle.std.specs.Prelude.{◌≡◌, ◌⊎◌, ◌&&◌, ◌||◌, not, if◌then◌else◌, Bool, true, false, Option, None, Some, option_map, is_some, IfSome, IsSomeAnd}
use Rattle.boot_verdict.specs.declared.report.Aggregate.{Aggregate}
use Rattle.boot_verdict.specs.declared.report.Aggregate.TheVariants as aggregates
use Rattle.agent_inputs.specs.Loading.{Inputs}
use Rattle.agent_inputs.specs.declared.fault.RunFault.{RunFault}
use Rattle.agent_inputs.specs.declared.fault.RunFault.TheVariants.{Memory}
use Rattle.judging.specs.Answering.{IsAnswer, IsRefusal}
use Rattle.judging.specs.Inputs.{FileOf, HcrtmLogOf, Where}
use Rattle.judging.specs.Requests.{Attests, Compares, Judgement, ListVerdictOf, PositionsOf, Requested, VerdictOf, WholeVerdictOf}
use Rattle.judging.specs.declared.request.Answered.{Answered}
use Rattle.hints.specs.declared.reasons.Causes.{Causes}
use Rattle.hints.specs.Hints.{causes_of}

-- ---- the other reading

-- The log in a file, where its H-CRTM event tells where the machine started.
abbrev pub told_place : Where → Option Where
told_place (FileOf name) = Some (HcrtmLogOf name)
told_place place = None

abbrev pub told_judgement : Judgement → Option Judgement
told_judgement (VerdictOf log scope resume) = option_map (λ told. VerdictOf told scope resume) (told_place log)
told_judgement (WholeVerdictOf log) = option_map WholeVerdictOf (told_place log)
told_judgement (PositionsOf log) = option_map PositionsOf (told_place log)
told_judgement ListVerdictOf = None

-- The same request with that log; none where there is no other reading of it, or no log.
abbrev pub with_hcrtm : Requested → Option Requested
with_hcrtm (Attests asked) = option_map (λ told. Attests (record asked { log = told })) (told_place asked.log)
with_hcrtm (Compares compare) = option_map (λ told. Compares (record compare { judgement = told })) (told_judgement compare.judgement)
with_hcrtm request = None

-- ---- what it explains

abbrev pub is_wrong : Option Aggregate → Bool
is_wrong (Some aggregates.Wrong) = true
is_wrong aggregate = false

-- A cause that was there is gone.
abbrev pub is_gone : Bool → Bool → Bool
is_gone before after = before && not after

-- With the other reading a register of the log differs no longer, the quote is of log and list, or the boot aggregate is that of the log.
abbrev pub differs_less : Causes → Causes → Bool
differs_less before after =
    is_gone (is_some before.log) (is_some after.log)
    || (is_gone (is_some before.values) (is_some after.values) || is_gone (is_wrong before.aggregate) (is_wrong after.aggregate))

-- The causes that are left, if less differs for them.
abbrev pub less_of : Causes → Causes → Option Causes
less_of before after = if differs_less before after then Some after else None

-- Less differs where the H-CRTM's event tells where the machine started: for these causes that are left.
abbrev pub IsByHcrtm : Inputs → Requested → Causes → Causes → Type 0
IsByHcrtm inputs request causes left =
    IsSomeAnd (with_hcrtm request)
    (λ told. (given : Answered) × IsAnswer inputs told given × (less_of causes (causes_of given) ≡ Some left))

-- It does not, or the log has no such reading, or cannot be judged by it, and memory did not run out.
abbrev pub IsNotByHcrtm : Inputs → Requested → Causes → Type 0
IsNotByHcrtm inputs request causes =
    IfSome (with_hcrtm request)
    (λ told. ((given : Answered) × IsAnswer inputs told given × (less_of causes (causes_of given) ≡ None))
    ⊎ ((fault : RunFault) × IsRefusal inputs told fault × (fault ≡ Memory → ⊥)))
