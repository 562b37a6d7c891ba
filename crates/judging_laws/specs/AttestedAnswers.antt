-- What an answer by a quote tells, if all is well with it: a log and a list are attested, or a log and the confirmed prefix of a list.
use Rattle.std.specs.Prelude.{◌≡◌, ◌⊎◌, ℕ, Bool, true, false, List, is_some}
use Rattle.ima_list.specs.Names.{BeginsWith, ListEntry, list_spelling}
use Rattle.attestations.specs.declared.report.AttestReport.{AttestReport}
use Rattle.attestations.specs.Attesting.{IsAttested}
use Rattle.attestations.specs.Judging.{Attestation}
use Rattle.attestations.specs.Quoted.{stated_by, stated_of}
use Rattle.agent_inputs.specs.Loading.{Inputs}
use Rattle.judging.specs.declared.request.Answer.{Answer}
use Rattle.judging.specs.declared.request.Answer.TheVariants as answers
use Rattle.judging.specs.declared.request.Answered.{Answered}
use Rattle.judging.specs.Answering.{IsAttestation, IsSignedByInputs, terms_with}
use Rattle.judging.specs.Inputs.{Holds}
use Rattle.judging.specs.Requests.{AttestRequested, ByCaller, ByKey, NotChecked, Signing}

-- The answer is the report of this attestation: by what its quote states, on so many events, from this locality, and on so many entries, with this
-- state of the boot aggregate.
pub record IsReportOf (answer : Answer) (attestation : Attestation) : Type 0 where
  pub report : AttestReport
  pub answer_is : answer ≡ answers.Attestation report
  pub quoted : stated_of report.quoted ≡ stated_by attestation.quote
  pub events : report.report.events ≡ attestation.events
  pub locality : report.report.locality ≡ attestation.locality
  pub entries : report.report.entries ≡ attestation.entries
  pub aggregate : report.report.aggregate ≡ attestation.aggregate

-- The message is signed: the caller says that he has verified that; or inputs have a key, and a signature of these bytes by it.
abbrev pub IsVouchedFor : Inputs → Signing → List ℕ → Type 0
IsVouchedFor inputs NotChecked message = ⊥
IsVouchedFor inputs ByCaller message = Unit {0}
IsVouchedFor inputs (ByKey key signature) message = IsSignedByInputs inputs key signature message

-- The message is signed. The log of the input, this list and the message of the input are attested, by the terms that are
-- asked for and the quote that the answer is by; and the answer is the report of that.
pub record TellsAttested (inputs : Inputs) (asked : AttestRequested) (given : Answered) (is : IsAttestation inputs asked given) (list : List ℕ) : Type 0 where
  pub message : List ℕ
  pub attestation : Attestation
  pub signed : IsVouchedFor inputs asked.signing message
  pub log_is : Holds inputs asked.log is.log
  pub message_is : Holds inputs asked.message message
  pub attested : IsAttested is.log list message (terms_with asked is.ranges) attestation
  pub quote_is : attestation.quote ≡ is.quote
  pub report_is : IsReportOf given.answer attestation

-- The list begins with these entries, and it is their bytes that are attested.
pub record TellsPrefixAttested (inputs : Inputs) (asked : AttestRequested) (given : Answered) (is : IsAttestation inputs asked given) (list : List ℕ) : Type 0 where
  pub prefix : List ListEntry
  pub rest : List ℕ
  pub begins : BeginsWith list prefix rest
  pub tells : TellsAttested inputs asked given is (list_spelling prefix)

-- Whether an answer by a quote is on a prefix of the list.
abbrev pub is_on_prefix : Answer → Bool
is_on_prefix (answers.Attestation report) = is_some report.prefix
is_on_prefix answer = false

-- The whole list is attested, or a prefix of it: the answer says which.
abbrev pub TellsSomeAttested : (inputs : Inputs) (asked : AttestRequested) (given : Answered) → IsAttestation inputs asked given → List ℕ → Type 0
TellsSomeAttested inputs asked given is list =
    ((is_on_prefix given.answer ≡ false) × TellsAttested inputs asked given is list)
    ⊎ ((is_on_prefix given.answer ≡ true) × TellsPrefixAttested inputs asked given is list)
