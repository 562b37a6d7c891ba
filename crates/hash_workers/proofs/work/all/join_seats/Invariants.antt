use Rattle.hash_workers.specs.Names.{AreJoined}
use Rattle.hash_workers.proofs.work.all.join_seats.Given as goal

abbrev pub invariant-loop-seat : goal.invariant-loop-seat
invariant-loop-seat l = AreJoined l.claims l.yielded l.all
