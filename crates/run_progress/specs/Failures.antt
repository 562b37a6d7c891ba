-- To whom is said beside the output why a run failed, and what to do next.
use Rattle.std.specs.Prelude.{Bool, true, false, not}
use Rattle.agent_plans.specs.declared.plan.Query.{Query}
use Rattle.agent_plans.specs.declared.plan.Query.TheVariants as queries
use Rattle.agent_plans.specs.declared.plan.Task.{Task}
use Rattle.agent_plans.specs.declared.plan.Task.TheVariants as tasks
use Rattle.run_progress.specs.declared.progress.Failure.{Failure}
use Rattle.run_progress.specs.declared.progress.Failure.TheVariants as failures
use Rattle.run_progress.specs.declared.progress.Listener.{Listener}
use Rattle.run_progress.specs.declared.progress.Listener.TheVariants as listeners

-- Nobody, if the arguments ask for silence.
abbrev pub listener_of : Bool → Bool → Listener
listener_of is_terminal true = listeners.Nobody
listener_of true false = listeners.Terminal
listener_of false false = listeners.Elsewhere

-- The question asks to say what to do next.
abbrev pub asks_why : Query → Bool
asks_why (queries.Comparison judge) = judge.explained
asks_why (queries.Attestation attest) = attest.explained
asks_why question = false

-- So does the task.
abbrev pub is_explained : Task → Bool
is_explained (tasks.Answer question) = asks_why question
is_explained task = false

-- It is said where there is no terminal: what came of the run is a failure, or nothing was compared; or something differs, and the task asks why.
-- That nothing was compared is then among the reasons, and not said beside them.
abbrev pub is_said_elsewhere : Failure → Bool
is_said_elsewhere (failures.Differs task) = is_explained task.now
is_said_elsewhere (failures.NothingToCompare question) = not (asks_why question.now)
is_said_elsewhere (failures.Matches task) = false
is_said_elsewhere failure = true

-- At a terminal all is said; that nothing was compared is among the reasons of a difference.
abbrev pub is_said_on_terminal : Failure → Bool
is_said_on_terminal (failures.NothingToCompare question) = false
is_said_on_terminal failure = true

-- It is said to this listener.
abbrev pub is_said : Listener → Failure → Bool
is_said listeners.Terminal failure = is_said_on_terminal failure
is_said listeners.Elsewhere failure = is_said_elsewhere failure
is_said listeners.Nobody failure = false
