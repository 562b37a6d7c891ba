use Rattle.std.proofs.Common.{Err, ap, inr}
use Rattle.agent_inputs.proofs.LoadingLemmas.{source_failed}
use Rattle.boot_verdict.specs.declared.verifier.VerifyFault.{VerifyFault}
use Rattle.judging.specs.Answering.{evidence_of}
use Rattle.judging.proofs.InputLaws.{positions_refused}
use Rattle.judging.proofs.answers.Evidence.find_from.Goals as goal

pub returns-in-Err : goal.returns-in-Err
returns-in-Err g c =
    λ inputs gives.
    rw c.in-Positions.is
    (inr (positions_refused gives (evidence_of c.args.self.now) c.in-Err.fault _
    (source_failed c.locate_from.result c.in-Err.fault _ _ c.in-Err.is c.locate_from.ensures.counts c.locate_from.ensures.telling)
    (rw (c.bytes-log.ensures, c.limit_of.ensures) at c.in-Err.ensures.fault)
    (λ same. rw c.bytes-log.ensures at (c.in-Err.ensures.memory (ap (λ (f : VerifyFault). Err f) same))) c.refusal.ensures))
