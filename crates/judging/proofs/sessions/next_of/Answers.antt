use Rattle.judging.proofs.sessions.next_of.Goals as goal

pub returns-then-leaves_room-clause-next : goal.returns-then-leaves_room-clause-next
returns-then-leaves_room-clause-next c =
    let counted = rw c.checkpoint-next.ensures at c.counted_checkpoint_is_possible.ensures.counted in
    let possible = rw c.checkpoint-next.ensures at c.counted_checkpoint_is_possible.ensures.possible in
    let room = rw c.checkpoint-next.ensures at c.leaves_room.ensures in
    (c.checkpoint-next.ensures, λ list is. possible (counted list is (room.0 c.if-leaves_room.true)))
