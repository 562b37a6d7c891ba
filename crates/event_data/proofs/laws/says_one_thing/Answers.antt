use Rattle.event_data.proofs.ContentLaws.{says_once}
use Rattle.event_data.proofs.laws.says_one_thing.Goals as goal

pub returns : goal.returns
returns c = says_once
