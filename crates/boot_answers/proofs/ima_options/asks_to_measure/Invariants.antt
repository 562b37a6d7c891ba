use Rattle.std.proofs.Common.{true, length}
use Rattle.std.specs.Prelude.{◌↔◌}
use Rattle.boot_answers.specs.parts.ImaMeasuring.{AsksFrom}
use Rattle.boot_answers.proofs.ima_options.asks_to_measure.Given as goal

abbrev pub invariant-loop-first : goal.invariant-loop-first
invariant-loop-first l = AsksFrom l.starts l.rest ↔ AsksFrom true l.fn.text

abbrev pub decreases-loop-first : goal.decreases-loop-first
decreases-loop-first l = length l.rest
