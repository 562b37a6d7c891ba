use Rattle.std.proofs.Common.{true, length}
use Rattle.std.specs.Prelude.{◌↔◌}
use Rattle.boot_answers.specs.parts.ImaPolicy.{SetsFrom}
use Rattle.boot_answers.proofs.ima_options.may_set_ima_policy.Given as goal

abbrev pub invariant-loop-first : goal.invariant-loop-first
invariant-loop-first l = SetsFrom l.starts l.rest ↔ SetsFrom true l.fn.text

abbrev pub decreases-loop-first : goal.decreases-loop-first
decreases-loop-first l = length l.rest
