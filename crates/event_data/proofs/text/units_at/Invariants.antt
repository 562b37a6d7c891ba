use Rattle.std.proofs.Common.{length}
use Rattle.event_data.proofs.UnitLaws.{IsOnWay}
use Rattle.event_data.proofs.text.units_at.Given as goal

abbrev pub invariant-loop-rest : goal.invariant-loop-rest
invariant-loop-rest l = IsOnWay l.fn.bytes l.rest

abbrev pub decreases-loop-rest : goal.decreases-loop-rest
decreases-loop-rest l = length l.rest
