use Rattle.pcr_banks.proofs.SetLaws.{same_algs, same_digests}
use Rattle.pcr_banks.proofs.laws.sets_are_what_they_have.Goals as goal

pub returns-clause-sets : goal.returns-clause-sets
returns-clause-sets c = same_algs

pub returns-clause-digests : goal.returns-clause-digests
returns-clause-digests c = same_digests
