use Rattle.event_data.proofs.ListLaws.{list_signatures}
use Rattle.event_data.proofs.laws.list_is_its_signatures.Goals as goal

pub returns : goal.returns
returns c = list_signatures
