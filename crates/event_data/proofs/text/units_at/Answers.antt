use Rattle.std.proofs.Common.{◌∙◌, sym, ap, Ok, List, ℕ, take, drop, length, ◌-◌}
use Rattle.event_data.proofs.UnitLaws.{way_ends, way_passes, way_fails}
use Rattle.event_data.proofs.text.units_at.Goals as goal

pub returns-then-is_nul : goal.returns-then-is_nul
returns-then-is_nul c =
    way_ends c.args.bytes.now c.loop-rest.rest.now c.in-len2-up.len_at_least (sym c.is_nul.ensures ∙ c.if-is_nul.true) c.loop-rest.invariant
    ∙ ap (λ (t : List ℕ). Ok (t, take (length c.loop-rest.rest.now - 2) (drop 2 c.loop-rest.rest.now))) (sym c.split_at.ensures.front)

pub loop-rest-preserved : goal.loop-rest-preserved
loop-rest-preserved c =
    way_passes c.args.bytes.now c.loop-rest.rest.now c.in-len2-up.len_at_least (sym c.is_nul.ensures ∙ c.if-is_nul.false) c.loop-rest.invariant

pub returns : goal.returns
returns c = way_fails c.args.bytes.now c.loop-rest.rest.now c.in_default.len_below c.loop-rest.invariant
