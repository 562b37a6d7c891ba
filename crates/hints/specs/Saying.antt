-- What a person is told to do next.
use Rattle.std.specs.Prelude.{◌≡◌, ℕ, ◌⊎◌, ◌++◌, ◌∷◌, Bool, List, [], codes, flat_map, take, Option, None, Some, MatchOption, IfSome, IfNone}
use Rattle.agent_inputs.specs.declared.fault.RunFault.{RunFault}
use Rattle.agent_inputs.specs.declared.fault.RunFault.TheVariants as runs
use Rattle.agent_inputs.specs.Loading.{Inputs}
use Rattle.agent_plans.specs.declared.plan.Query.{Query}
use Rattle.agent_plans.specs.declared.plan.Quoting.{Quoting}
use Rattle.agent_plans.specs.declared.plan.Task.{Task}
use Rattle.agent_plans.specs.declared.plan.Task.TheVariants as tasks
use Rattle.judging.specs.Requests.{Requested}
use Rattle.hints.specs.declared.reasons.Causes.{Causes}
use Rattle.hints.specs.declared.hints.Hint.TheVariants.{ByHcrtm, NothingExpected}
use Rattle.hints.specs.declared.reasons.Grown.{Grown}
use Rattle.hints.specs.declared.wrong_input.Mistake.{Mistake}
use Rattle.hints.specs.declared.wrong_input.ExpectedInput.{ExpectedInput}
use Rattle.hints.specs.Escaping.{escape}
use Rattle.hints.specs.FaultLines.{advice_of}
use Rattle.hints.specs.Hcrtm.{IsByHcrtm, IsNotByHcrtm}
use Rattle.hints.specs.Heads.{IsLookedAt}
use Rattle.hints.specs.Hints.{IsGrown, IsNotGrown, IsNotSeen, IsSeen}
use Rattle.hints.specs.HintTexts.{hints_of_causes, mistake_words, shown_hint}
use Rattle.hints.specs.Matches.{TellsMatch}
use Rattle.hints.specs.Mistakes.{mistake_in}
use Rattle.hints.specs.OldAggregates.{IsSaidOld}
use Rattle.judging.specs.Queries.{requested_by, with_known}
use Rattle.hints.specs.Refused.{list_of, quoting_of, refused_input, replayed_log}
use Rattle.hints.specs.Signing.{key_words, refusal_words, unsigned_words}
use Rattle.run_progress.specs.declared.progress.Failure.{Failure}
use Rattle.tpm_keys.specs.declared.fault.KeyFault.{KeyFault}
use Rattle.run_progress.specs.declared.progress.Failure.TheVariants as failures

-- What a question asks, without known files.
abbrev pub without_known : Query → Requested
without_known question = with_known [] (requested_by question)

-- Three lines at most on these causes, and on a prefix of the list, if all is well with one but for files that are not known; and whether the list
-- records an older kernel's aggregate.
abbrev pub TellsHints : Inputs → Task → Query → Causes → List ℕ → Type 0
TellsHints inputs task question causes text =
    (grown : Option Grown) × (is_old : Bool)
    × IfSome grown (IsGrown inputs (without_known question)) × IfNone grown (IsNotGrown inputs (without_known question))
    × IsSaidOld inputs (replayed_log task) (list_of task) is_old
    × (text ≡ flat_map shown_hint (take 3 (hints_of_causes causes grown is_old)))

-- Only that the H-CRTM's event tells where the machine started, if less differs then.
abbrev pub TellsSeen : Inputs → Task → Query → Causes → List ℕ → Type 0
TellsSeen inputs task question causes text =
    ((left : Causes) × IsByHcrtm inputs (without_known question) causes left × (text ≡ shown_hint ByHcrtm))
    ⊎ (IsNotByHcrtm inputs (without_known question) causes × TellsHints inputs task question causes text)

-- What there is to say of the causes for which what is asked for differs when the inputs are judged once more. Nothing is said only where it
-- differs no longer, or cannot be judged again.
abbrev pub TellsCauses : Inputs → Query → List ℕ → Type 0
TellsCauses inputs question text =
    (IsNotSeen inputs (requested_by question) × (text ≡ []))
    ⊎ ((causes : Causes) × IsSeen inputs (requested_by question) causes × TellsSeen inputs (tasks.Answer question) question causes text)

-- The line that names an input, and says what it is; if that cannot be told, the table's advice.
abbrev pub mistake_line : List ℕ → List ℕ → Option Mistake → List ℕ
mistake_line advice input None = advice
mistake_line advice input (Some mistake) = escape (input ++ (codes ": " ++ mistake_words mistake)) ++ 10 ∷ []

abbrev pub head_line : List ℕ → List ℕ → ExpectedInput → Option (List ℕ) → List ℕ
head_line advice input wanted None = advice
head_line advice input wanted (Some head) = mistake_line advice input (mistake_in wanted head)

-- What the input that the fault is of is, by its first bytes; the table's advice if that cannot be told, it may fail, or the fault is of no such input.
abbrev pub TellsMistake : Inputs → RunFault → Task → List ℕ → Type 0
TellsMistake inputs fault task text =
    MatchOption (refused_input fault task) (text ≡ advice_of fault)
    (λ refused. (head : Option (List ℕ)) × IsLookedAt inputs refused.0 head × (text ≡ head_line (advice_of fault) refused.0 refused.1 head))

-- What to do about a refused key: what to give with a quote, or what the file is.
abbrev pub TellsKey : Inputs → KeyFault → Task → Option Quoting → List ℕ → Type 0
TellsKey inputs fault task None text = TellsMistake inputs (runs.Key fault) task text
TellsKey inputs fault task (Some quoting) text = text ≡ escape (key_words fault) ++ 10 ∷ []

-- What to do about a fault: of a signature and a quote's key what to give, of other inputs what they are, or what the table advises.
abbrev pub TellsFault : Inputs → RunFault → Task → List ℕ → Type 0
TellsFault inputs (runs.Signature refusal) task text = text ≡ escape (refusal_words refusal) ++ 10 ∷ []
TellsFault inputs (runs.Key fault) task text = TellsKey inputs fault task (quoting_of task) text
TellsFault inputs fault task text = TellsMistake inputs fault task text

abbrev pub TellsOf : Inputs → Task → List ℕ → Type 0
TellsOf inputs (tasks.Answer question) text = TellsCauses inputs question text
TellsOf inputs task text = text ≡ []

-- What to do next after this.
abbrev pub TellsNext : Inputs → Failure → List ℕ → Type 0
TellsNext inputs (failures.Differs task) text = TellsOf inputs task.now text
TellsNext inputs (failures.Unsigned task) text = text ≡ escape unsigned_words ++ 10 ∷ []
TellsNext inputs (failures.Fault fault task) text = TellsFault inputs fault.now task.now text
TellsNext inputs (failures.Matches task) text = TellsMatch task.now text
TellsNext inputs failures.NothingCompared text = text ≡ shown_hint NothingExpected
TellsNext inputs (failures.NothingToCompare question) text = text ≡ shown_hint NothingExpected
TellsNext inputs failure text = text ≡ []
