use Rattle.ima_agent.proofs.AloneLaws.{alone_if_known}
use Rattle.ima_agent.proofs.laws.faults_of_a_list_are_alone.Goals as goal

pub returns : goal.returns
returns c = alone_if_known
