use Rattle.std.proofs.Common.{[]}
use Rattle.judging_laws.proofs.AttestedAnswerLaws.{from_nothing, prefix_attested, whole_attested}
use Rattle.judging_laws.proofs.attested.answer_tells_attestation.Goals as goal

pub returns-clause-whole : goal.returns-clause-whole
returns-clause-whole c =
    λ inputs asked given is success scope resume. whole_attested inputs asked given is success scope [] (from_nothing inputs asked given is resume)

pub returns-clause-prefix : goal.returns-clause-prefix
returns-clause-prefix c =
    λ inputs asked given is success scope resume. prefix_attested inputs asked given is success [] (from_nothing inputs asked given is resume)

pub returns-clause-resumed : goal.returns-clause-resumed
returns-clause-resumed c = whole_attested

pub returns-clause-resumed_prefix : goal.returns-clause-resumed_prefix
returns-clause-resumed_prefix c = λ inputs asked given is success scope. prefix_attested inputs asked given is success
