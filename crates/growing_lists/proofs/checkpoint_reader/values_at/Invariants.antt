use Rattle.growing_lists.proofs.CheckpointLaws.{AreTaken}
use Rattle.growing_lists.proofs.checkpoint_reader.values_at.Given as goal

abbrev pub invariant-loop-register : goal.invariant-loop-register
invariant-loop-register l = AreTaken l.fn.start l.fn.text l.banks l._register l.rest
