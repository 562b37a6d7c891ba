use Rattle.std.proofs.lemmas.Bool.{and_left, and_right, ne_eqb}
use Rattle.event_data.proofs.NulUnitLaws.{unit_passed, unit_ends, unit_missing}
use Rattle.event_data.proofs.text.after_unit.Goals as goal
use Rattle.event_data.proofs.text.after_unit.Goals.{else-low-eq0-via-then-low-eq0+else-high-eq0, else-low-eq0-via-else-low-eq0}

pub returns-then-high-eq0-clause-none : goal.returns-then-high-eq0-clause-none
returns-then-high-eq0-clause-none c = unit_ends c.args.bytes.now c.in-len2-up.len_at_least c.if-low-eq0.true c.if-high-eq0.true

pub returns-in_default-clause-none : goal.returns-in_default-clause-none
returns-in_default-clause-none c = unit_missing c.args.bytes.now c.in_default.len_below

pub returns-else-low-eq0-clause-unit : goal.returns-else-low-eq0-clause-unit
returns-else-low-eq0-clause-unit c =
    unit_passed c.args.bytes.now c.in-len2-up.len_at_least
    (elim c.else-low-eq0.branch [
      | else-low-eq0-via-then-low-eq0+else-high-eq0 w ↦ and_right _ _ (ne_eqb _ 0 w.if-high-eq0.false)
      | else-low-eq0-via-else-low-eq0 w ↦ and_left _ _ (ne_eqb _ 0 w.if-low-eq0.false)
    ])
