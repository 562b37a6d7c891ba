use Rattle.ima_list.proofs.AggregateLaws.{HasJoined}
use Rattle.ima_list.proofs.aggregate.old_boot_aggregate.Given as goal

-- The hasher took the values of the registers so far.
abbrev pub invariant-loop-register : goal.invariant-loop-register
invariant-loop-register l = HasJoined l.hasher l.fn.registers l.fn.alg l.register
