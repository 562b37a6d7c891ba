use Rattle.std.proofs.Common.{◌<◌}
use Rattle.agent_inputs.proofs.HashingLaws.{HasHashed}
use Rattle.agent_inputs.proofs.source_hash.hash_from.Given as goal

abbrev pub invariant-loop-piece : goal.invariant-loop-piece
invariant-loop-piece g l =
    let state = g.R.Source.state in
    record { hashed : HasHashed (state l.fn.source) (state l.source) l.fn.alg l.limit l.room l.hasher; some : 0 < l.size }

abbrev pub decreases-loop-piece : goal.decreases-loop-piece
decreases-loop-piece g l = l.room
