-- What the first bytes of an input are, and when nothing is said.
use Rattle.std.proofs.Common.{◌≡◌, ℕ, ◌≤◌, List, [], length, Option, None, Some, Result, Ok, Err, refl, sym, ◌∙◌, append-nil, arith, inl, inr}
use Rattle.std.specs.Prelude.{IfOk, IfSome, is_some}
use Rattle.std.specs.Io.KnownBytes.{Consumes}
use Rattle.byte_streams.specs.declared.piece_reader.ReadFault.{ReadFault}
use Rattle.byte_streams.specs.declared.piece_reader.ReadFault.TheVariants.{Memory, Source}
use Rattle.byte_streams.specs.Streams.{SourceState, failures_after_reading}
use Rattle.agent_inputs.specs.Loading.{HasFailed, Inputs}
use Rattle.agent_inputs.proofs.LoadingLemmas.{HasLost}
use Rattle.agent_plans.specs.declared.plan.Query.{Query}
use Rattle.agent_plans.specs.declared.plan.Task.{Task}
use Rattle.agent_plans.specs.declared.plan.Task.TheVariants as tasks
use Rattle.judging.specs.Requests.{Requested}
use Rattle.hints.specs.Heads.{IsHead, head_size}
use Rattle.hints.specs.declared.reasons.Causes.{Causes}
use Rattle.hints.specs.Hints.{IsNotSeen, IsSeen}
use Rattle.judging.specs.Queries.{requested_by}
use Rattle.hints.specs.Saying.{TellsOf, TellsSeen}

-- All bytes of a source are its first.
pub head_of_all : (left : Option (List ℕ)) (all : List ℕ) → IfSome left (λ bytes. all ≡ bytes) → IfSome left (IsHead all)
head_of_all None all is = tt
head_of_all (Some bytes) all is = record { rest = []; whole = sym is ∙ sym (append-nil all); enough = λ _. refl }

-- So are as many as are looked at.
pub head_of_more : (old new : Option (List ℕ)) (head : List ℕ) → Consumes old new head → head_size ≤ length head → IfSome old (IsHead head)
head_of_more None new head lost enough = tt
head_of_more (Some bytes) None head lost enough = absurd lost
head_of_more (Some bytes) (Some rest) head lost enough =
    record { rest = rest; whole = lost; enough = λ short. absurd (omega (arith, short, enough)) }

-- The source failed, after it had given some.
pub failed_after : (old mid new : SourceState) {head : List ℕ} (fault : ReadFault) → HasLost old mid head
    → is_some new.remaining ≡ is_some mid.remaining → new.failures ≡ failures_after_reading {A = ℕ} (Err fault) mid.failures
    → fault ≡ Source → HasFailed old new
failed_after old mid new Source has telling counts is = record { counts = rw has.failures at counts; telling = telling ∙ has.telling }
failed_after old mid new Memory has telling counts is = absurd cc

-- The first bytes that a source gives begin the bytes of its input, if these are known.
pub head_given : (known left : Option (List ℕ)) (head : List ℕ) → IfSome known (λ all. left ≡ Some all) → IfSome left (IsHead head)
    → (bytes : List ℕ) × IfSome known (λ all. bytes ≡ all) × IsHead head bytes
head_given None left head given is = (head, tt, record { rest = []; whole = sym (append-nil head); enough = λ _. refl })
head_given (Some all) left head given is = (all, refl, rw given at is)

-- Nothing is said where what a question asks is not seen to differ.
pub nothing_seen : (inputs : Inputs) (task : Task) (question : Query) (asked : Requested) (text : List ℕ) → task ≡ tasks.Answer question
    → asked ≡ requested_by question → IsNotSeen inputs asked → text ≡ [] → TellsOf inputs task text
nothing_seen inputs task question asked text is by unseen none = rw is (inl (rw by at unseen, none))

-- What is said of the causes that are seen is what is said of the task.
pub causes_told : {A E : Type 0} (inputs later : Inputs) (task : Task) (question : Query) (asked : Requested) (causes : Causes)
    (text_of : A → List ℕ) (result : Result A E) → task ≡ tasks.Answer question → asked ≡ requested_by question → later ≡ inputs
    → IsSeen inputs asked causes → IfOk result (λ text. TellsSeen later task question causes (text_of text))
    → IfOk result (λ text. TellsOf inputs task (text_of text))
causes_told inputs later task question asked causes text_of (Ok text) by asked_is same seen told =
    rw by (inr (causes, rw asked_is at seen, rw (by, same) at told))
causes_told inputs later task question asked causes text_of (Err fault) by asked_is same seen told = tt
