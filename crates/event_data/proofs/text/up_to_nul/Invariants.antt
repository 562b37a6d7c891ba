use Rattle.std.proofs.Common.{length}
use Rattle.event_data.proofs.NulUnitLaws.{IsOnWay}
use Rattle.event_data.proofs.text.up_to_nul.Given as goal

abbrev pub invariant-loop-later : goal.invariant-loop-later
invariant-loop-later l = IsOnWay l.fn.bytes l.rest

abbrev pub decreases-loop-later : goal.decreases-loop-later
decreases-loop-later l = length l.rest
