use Rattle.std.proofs.Common.{ℕ, List, refl, subst}
use Rattle.judging.specs.Inputs.{FileOf, HcrtmLogOf}
use Rattle.judging.specs.Requests.{log_of}
use Rattle.judging_laws.specs.QuotedLogs.{QuotesLog}
use Rattle.judging_laws.proofs.ToldLogLaws.{as_it_stands, evidence_at, on_told}
use Rattle.judging_laws.proofs.told.hcrtm_answer_is_on_the_told_log.Goals as goal

pub returns-clause-comparison : goal.returns-clause-comparison
returns-clause-comparison c =
    λ inputs request given is name log place held.
    on_told inputs (HcrtmLogOf name) is.evidence.log name log refl held
    (evidence_at inputs (log_of request.judgement) (HcrtmLogOf name) is.evidence.log place is.evidence_is.log_is)

pub returns-clause-compared_as_it_stands : goal.returns-clause-compared_as_it_stands
returns-clause-compared_as_it_stands c =
    λ inputs request given is name log place held.
    as_it_stands inputs (FileOf name) is.evidence.log name log refl held
    (evidence_at inputs (log_of request.judgement) (FileOf name) is.evidence.log place is.evidence_is.log_is)

pub returns-clause-attestation : goal.returns-clause-attestation
returns-clause-attestation c = λ inputs asked given is name log place held. on_told inputs asked.log is.log name log place held is.log_is

pub returns-clause-attested_as_it_stands : goal.returns-clause-attested_as_it_stands
returns-clause-attested_as_it_stands c = λ inputs asked given is name log place held. as_it_stands inputs asked.log is.log name log place held is.log_is

pub returns-clause-quoted : goal.returns-clause-quoted
returns-clause-quoted c =
    λ inputs asked given is name log success whole none place held.
    subst (λ (bytes : List ℕ). QuotesLog bytes is.quote) (on_told inputs asked.log is.log name log place held is.log_is)
    (c.successful_answer_quotes_the_log.ensures inputs asked given is success whole none)
