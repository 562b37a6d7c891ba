use Rattle.event_data.proofs.SaysLaws.{value_says_once}
use Rattle.event_data.proofs.laws.value_says_one_thing.Goals as goal

pub returns : goal.returns
returns c = value_says_once
