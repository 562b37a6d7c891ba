-- What a person is told of a match.
use Rattle.std.specs.Prelude.{◌≡◌, ◌⊎◌, ℕ, List, [], Option, None, Some, option_map, string_bytes, MatchOption}
use Rattle.agent_plans.specs.declared.plan.Query.TheVariants as queries
use Rattle.agent_plans.specs.declared.plan.Task.{Task}
use Rattle.agent_plans.specs.declared.plan.Task.TheVariants as tasks
use Rattle.attestations.specs.Policies.{first_weak}
use Rattle.boot_verdict.specs.Names.{IsRequirementText}
use Rattle.hints.specs.declared.hints.Hint.TheVariants.{OnlySha1}
use Rattle.hints.specs.HintTexts.{shown_hint}
use Rattle.pcr_values.specs.declared.selection.BankRange.{BankRange}

-- The text of the registers that a verdict requires. (By a quote the arguments allow SHA-1 alone, or it is refused.)
abbrev pub required_of : Task → Option (List ℕ)
required_of (tasks.Answer (queries.Comparison judge)) = option_map string_bytes judge.required
required_of task = None

abbrev pub weak_line : Option ℕ → List ℕ
weak_line None = []
weak_line (Some register) = shown_hint (OnlySha1 register)

-- The first register that is required in the SHA-1 bank alone.
abbrev pub TellsWeak : List ℕ → List ℕ → Type 0
TellsWeak required text =
    ((ranges : List BankRange) × IsRequirementText required ranges × (text ≡ weak_line (first_weak ranges)))
    ⊎ (((ranges : List BankRange) → IsRequirementText required ranges → ⊥) × (text ≡ []))

abbrev pub TellsMatch : Task → List ℕ → Type 0
TellsMatch task text = MatchOption (required_of task) (text ≡ []) (λ required. TellsWeak required text)
