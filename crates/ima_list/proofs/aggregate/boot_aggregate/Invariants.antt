use Rattle.ima_list.proofs.AggregateLaws.{HasJoined}
use Rattle.ima_list.proofs.aggregate.boot_aggregate.Given as goal

abbrev pub invariant-loop-register : goal.invariant-loop-register
invariant-loop-register l = HasJoined l.hasher l.fn.banks l.fn.alg l.register
