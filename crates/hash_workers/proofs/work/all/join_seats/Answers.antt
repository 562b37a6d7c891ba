use Rattle.std.proofs.Common.{◌++◌, ◌∷◌, [], ◌||◌, length-append, sym, ap, ◌∙◌, arith}
use Rattle.hash_workers.proofs.SeatLaws.{draws_snoc, ended_snoc}
use Rattle.hash_workers.proofs.work.all.join_seats.Goals as goal

pub loop-seat-preserved : goal.loop-seat-preserved
loop-seat-preserved c =
    let kept = c.loop-seat.invariant in
    let seat = c.in-Some.seat in
    let seats = c.loop-seat.yielded in
    let made = c.with.ensures in
    record {
      claims_are = made.0;
      places = omega (arith, made.1, kept.places, length-append seats (seat ∷ []));
      draws = made.2 ∙ ap (λ xs. xs ++ seat.draws) kept.draws ∙ sym (draws_snoc seats seat);
      ended = made.3 ∙ ap (λ b. b || seat.ended) kept.ended ∙ sym (ended_snoc seats seat);
    }
