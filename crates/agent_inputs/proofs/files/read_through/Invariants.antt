use Rattle.std.proofs.Common.{◌≡◌, []}
use Rattle.agent_inputs.proofs.LoadingLemmas.{HasPassed}
use Rattle.agent_inputs.proofs.files.read_through.Given as goal

abbrev pub invariant-loop-piece : goal.invariant-loop-piece
invariant-loop-piece g l =
    let state = g.R.Source.state in
    record { passed : HasPassed l.limit l.room (state l.fn.source) (state l.source); none : l.piece.items ≡ [] }

abbrev pub decreases-loop-piece : goal.decreases-loop-piece
decreases-loop-piece g l = l.room
