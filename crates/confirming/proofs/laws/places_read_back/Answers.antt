use Rattle.confirming.proofs.ExistLaws.{matched_read_back}
use Rattle.confirming.proofs.PlaceLaws.{spells_once}
use Rattle.confirming.proofs.laws.places_read_back.Goals as goal

pub returns-clause-written : goal.returns-clause-written
returns-clause-written c = matched_read_back

pub returns-clause-once : goal.returns-clause-once
returns-clause-once c = spells_once
