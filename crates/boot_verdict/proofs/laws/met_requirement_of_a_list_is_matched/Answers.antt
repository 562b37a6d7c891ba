use Rattle.boot_verdict.proofs.RequirementLaws.{required_list_apart, required_list_bound, required_list_matched}
use Rattle.boot_verdict.proofs.laws.met_requirement_of_a_list_is_matched.Goals as goal

pub returns-clause-matched : goal.returns-clause-matched
returns-clause-matched c = required_list_matched

pub returns-clause-bound : goal.returns-clause-bound
returns-clause-bound c = required_list_bound

pub returns-clause-apart : goal.returns-clause-apart
returns-clause-apart c = required_list_apart
