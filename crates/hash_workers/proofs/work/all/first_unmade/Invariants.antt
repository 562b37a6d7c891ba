use Rattle.hash_workers.specs.Names.{IsLeastUnmade}
use Rattle.hash_workers.proofs.work.all.first_unmade.Given as goal

abbrev pub invariant-loop-work : goal.invariant-loop-work
invariant-loop-work l = IsLeastUnmade l.works l.work-index l.first
