-- What is judged by a quote: its log is one.
use Rattle.std.proofs.Common.{◌≡◌, List, [], Option, None, Some, ap, refl}
use Rattle.agent_inputs.specs.Loading.{Inputs}
use Rattle.agent_plans.specs.declared.plan.Scope.TheVariants.{Whole}
use Rattle.boot_verdict.specs.declared.checkpoint.Checkpoint.{Checkpoint}
use Rattle.boot_verdict.specs.Names.{ReadsAsLog, wide_rule}
use Rattle.ima_list.specs.Names.{ListEntry}
use Rattle.known_files.specs.declared.unknown.UnknownFiles.{UnknownFiles}
use Rattle.judging.specs.declared.request.Answer.{Answer}
use Rattle.judging.specs.declared.request.Answered.{Answered}
use Rattle.judging.specs.declared.request.ScopedReport.{ScopedReport}
use Rattle.judging.specs.declared.request.ScopedReport.TheVariants as judged
use Rattle.judging.specs.Answering.{Evidence, IsAttestation, IsJudged, IsVerdictOn, checkpoint_of, quoted_evidence}
use Rattle.judging.specs.Inputs.{Where}
use Rattle.judging.specs.Requests.{AttestRequested, Judgement, VerdictOf, WholeVerdictOf}
use Rattle.judging.proofs.RequestLaws.{of_verdict}

module _ (inputs : Inputs) (list : Where) (evidence : Evidence) (first : evidence.checkpoint ≡ None) where
  -- A verdict that goes on from nothing is on a log.
  log_on : (Tells : List ListEntry → Type 0) (on : ScopedReport) (next : Checkpoint) → IsVerdictOn inputs Whole list evidence Tells on next
      → ReadsAsLog evidence.log
  log_on Tells (judged.Whole report) next (boot, more, none) =
      let (content, held, (short, verdict, told)) = more [] (rw first refl) in
      record { table = verdict.table; events = verdict.events; log_is = verdict.log_is }
  log_on Tells (judged.Prefix report) next (boot, seeks, more, wrong) = cc

  log_judged : (place : Where) (answer : Answer) (next : Option Checkpoint) (unknown : Option UnknownFiles)
      → IsJudged inputs (VerdictOf place Whole None) list evidence answer next unknown → ReadsAsLog evidence.log
  log_judged place answer None unknown is = absurd is
  log_judged place answer (Some next) unknown (on, is, answered) = log_on _ on next is

  log_whole : (place : Where) (answer : Answer) (next : Option Checkpoint) (unknown : Option UnknownFiles)
      → IsJudged inputs (WholeVerdictOf place) list evidence answer next unknown → ReadsAsLog evidence.log
  log_whole place answer None unknown judged =
      let is = judged.2.verdict_is in
      record { table = is.table; events = is.events; log_is = is.log_is }
  log_whole place answer (Some next) unknown judged = absurd judged

-- So it is where a whole list is judged, from its beginning.
pub log_attested : (inputs : Inputs) (asked : AttestRequested) (given : Answered) (is : IsAttestation inputs asked given) → asked.scope ≡ Whole
    → asked.resume ≡ None → ReadsAsLog is.log
log_attested inputs asked given is whole none =
    let evidence = quoted_evidence (wide_rule asked.old_kernel) is.log is.quote is.signature is.values is.counted (checkpoint_of is.state) is.files in
    let first = ap checkpoint_of (rw none at is.state_is) in
    let On : Judgement → Type 0 = λ judgement. IsJudged inputs judgement asked.list evidence given.answer is.next given.unknown → ReadsAsLog is.log in
    of_verdict On asked.saves asked.log asked.scope asked.resume
    (λ scope resume judged. log_whole inputs asked.list evidence first asked.log given.answer is.next given.unknown judged)
    (λ judged. log_judged inputs asked.list evidence first asked.log given.answer is.next given.unknown (rw (whole, none) at judged)) is.judged
