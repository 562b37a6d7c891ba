use Rattle.event_texts.proofs.UnitLaws.{no_unit, one_unit}
use Rattle.event_texts.proofs.bytes.first_unit.Goals as goal

pub returns-in_default-clause-none : goal.returns-in_default-clause-none
returns-in_default-clause-none c = no_unit c.args.bytes.now c.in_default.len_below

pub returns-in-len2-up-clause-unit : goal.returns-in-len2-up-clause-unit
returns-in-len2-up-clause-unit c =
    one_unit c.args.bytes.now c.from_le_bytes.result c.in-len2-up.len_at_least c.from_le_bytes.ensures
