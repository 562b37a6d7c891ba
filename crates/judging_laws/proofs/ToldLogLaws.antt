-- On which bytes of a file an answer is.
use Rattle.std.proofs.Common.{◌≡◌, ℕ, List, [], Option, Some, subst}
use Rattle.std.specs.Prelude.{IfSome, MatchOption, option_map}
use Rattle.agent_inputs.specs.Opening.{told}
use Rattle.agent_inputs.specs.Loading.{Inputs}
use Rattle.judging.specs.Inputs.{FileOf, HcrtmLogOf, Holds, Where}

-- What an input holds, where it is this log.
pub on_told : (inputs : Inputs) (place : Where) (content name log : List ℕ) → place ≡ HcrtmLogOf name → inputs.held (Some name) ≡ Some log
    → Holds inputs place content → content ≡ told log
on_told inputs place content name log is held holds =
    let here : Holds inputs (HcrtmLogOf name) content = subst (λ (w : Where). Holds inputs w content) is holds in
    subst (λ (known : Option (List ℕ)). IfSome (option_map told known) (λ all. content ≡ all)) held here

pub as_it_stands : (inputs : Inputs) (place : Where) (content name log : List ℕ) → place ≡ FileOf name → inputs.held (Some name) ≡ Some log
    → Holds inputs place content → content ≡ log
as_it_stands inputs place content name log is held holds =
    let here : Holds inputs (FileOf name) content = subst (λ (w : Where). Holds inputs w content) is holds in
    subst (λ (known : Option (List ℕ)). IfSome known (λ all. content ≡ all)) held here

-- The log of what is compared, where it is in this place.
pub evidence_at : (inputs : Inputs) (wanted : Option Where) (place : Where) (content : List ℕ) → wanted ≡ Some place
    → MatchOption wanted (content ≡ []) (λ place. Holds inputs place content) → Holds inputs place content
evidence_at inputs wanted place content is holds =
    subst (λ (w : Option Where). MatchOption w (content ≡ []) (λ place. Holds inputs place content)) is holds
