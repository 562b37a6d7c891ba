use Rattle.event_lines.proofs.SteeringLaws.{plain_stays, unsteered_is_plain}
use Rattle.event_lines.proofs.laws.no_character_steers.Goals as goal

pub returns-clause-plain : goal.returns-clause-plain
returns-clause-plain c = unsteered_is_plain

pub returns-clause-stays : goal.returns-clause-stays
returns-clause-stays c = plain_stays
