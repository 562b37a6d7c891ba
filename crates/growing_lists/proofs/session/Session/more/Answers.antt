use Rattle.std.proofs.lemmas.Result.{err_from_is_err_and}
use Rattle.growing_lists.proofs.SessionLaws.{taken_as}
use Rattle.growing_lists.proofs.session.Session.more.Goals as goal

pub returns-clause-taken : goal.returns-clause-taken
returns-clause-taken g c =
    rw (← c.room.ensures.room) (λ log list has.
    let goes = c.in_ok-next.ensures.known list has.checkpoint in
    record { more = goes.more; came = goes.came; taken = taken_as has goes.checkpoint c.in_ok-next.ensures.before })

pub returns-in_err-next-clause-fault : goal.returns-in_err-next-clause-fault
returns-in_err-next-clause-fault g c =
    let p = err_from_is_err_and c.from_residual.result c.from_residual.ensures.1 in
    rw (p.1, p.2, ← c.room.ensures.room) (λ log list has. c.in_err-next.ensures.fault list has.checkpoint)

pub returns-clause-watched : goal.returns-clause-watched
returns-clause-watched g c =
    rw (← c.room.ensures.room) (λ start log list has tracked.
    let goes = c.in_ok-next.ensures.watched start list has.checkpoint tracked in
    record {
      takes = record { more = goes.more; came = goes.came; taken = taken_as has goes.checkpoint c.in_ok-next.ensures.before };
      tracked = goes.tracked;
    })
