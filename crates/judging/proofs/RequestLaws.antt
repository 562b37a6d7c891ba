-- Which verdict is asked for.
use Rattle.std.proofs.Common.{◌≡◌, Bool, true, false, Option, None, Some, refl}
use Rattle.agent_plans.specs.declared.plan.Scope.{Scope}
use Rattle.agent_plans.specs.declared.plan.Scope.TheVariants.{Whole, Prefix}
use Rattle.judging.specs.Inputs.{Where}
use Rattle.judging.specs.Requests.{Judgement, VerdictOf, WholeVerdictOf, verdict_for}

-- What holds of each verdict that may be asked for holds of the one that is.
pub of_verdict : (P : Judgement → Type 0) (saves : Bool) (log : Where) (scope : Scope) (resume : Option Where)
    → (scope ≡ Whole → resume ≡ None → P (WholeVerdictOf log)) → P (VerdictOf log scope resume) → P (verdict_for saves log scope resume)
of_verdict P true log scope resume whole other = other
of_verdict P false log Whole None whole other = whole refl refl
of_verdict P false log Whole (Some place) whole other = other
of_verdict P false log Prefix resume whole other = other
