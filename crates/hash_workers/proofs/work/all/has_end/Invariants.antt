use Rattle.hash_workers.specs.Names.{HasNoEnd}
use Rattle.hash_workers.proofs.work.all.has_end.Given as goal

abbrev pub invariant-loop-work : goal.invariant-loop-work
invariant-loop-work l = HasNoEnd l.works l.end l.work-index
