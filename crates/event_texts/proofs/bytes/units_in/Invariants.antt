use Rattle.std.proofs.Common.{◌≡◌, ◌++◌, length}
use Rattle.event_texts.specs.WideTexts.{units_in}
use Rattle.event_texts.proofs.bytes.units_in.Given as goal

abbrev pub invariant-loop-unit : goal.invariant-loop-unit
invariant-loop-unit l = l.units.items ++ units_in l.left ≡ units_in l.fn.bytes

abbrev pub decreases-loop-unit : goal.decreases-loop-unit
decreases-loop-unit l = length l.left
