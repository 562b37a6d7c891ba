use Rattle.std.proofs.Common.{◌≤◌, ◌-◌, vec_len}
use Rattle.agent_inputs.proofs.LoadingLemmas.{HasLost}
use Rattle.agent_inputs.proofs.files.load.Given as goal

abbrev pub invariant-loop-bytes : goal.invariant-loop-bytes
invariant-loop-bytes g l =
    let state = g.R.Source.state in
    record { has : HasLost (state l.fn.source) (state l.source) l.bytes.items; within : vec_len l.bytes ≤ l.limit }

abbrev pub decreases-loop-bytes : goal.decreases-loop-bytes
decreases-loop-bytes g l = l.limit - vec_len l.bytes
