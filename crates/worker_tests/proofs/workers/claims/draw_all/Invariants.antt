use Rattle.std.proofs.Common.{◌≡◌}
use Rattle.worker_tests.proofs.workers.claims.draw_all.Given as goal

abbrev pub invariant-loop-draw : goal.invariant-loop-draw
invariant-loop-draw l = record { claims_are : l.seat.claims ≡ l.claims; places : l.seat.places ≡ l.fn.seat.places }
