use Rattle.event_data.proofs.HandoffLaws.{tables_are}
use Rattle.event_data.proofs.laws.handoff_is_its_tables.Goals as goal

pub returns : goal.returns
returns c = tables_are
