use Rattle.std.proofs.Common.{◌-◌, vec_len}
use Rattle.agent_inputs.proofs.LoadingLemmas.{HasLost}
use Rattle.hints.specs.Heads.{head_size}
use Rattle.hints.proofs.reread.first_bytes.Given as goal

abbrev pub invariant-loop-pieces : goal.invariant-loop-pieces
invariant-loop-pieces g l = let state = g.R.Source.state in HasLost (state l.fn.source) (state l.source) l.bytes.items

abbrev pub decreases-loop-pieces : goal.decreases-loop-pieces
decreases-loop-pieces g l = head_size - vec_len l.bytes
