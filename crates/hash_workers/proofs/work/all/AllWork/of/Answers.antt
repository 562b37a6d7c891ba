use Rattle.hash_workers.proofs.SeatLaws.{all_single, have_unmade, taken_before_unmade, taken_each}
use Rattle.hash_workers.proofs.work.all.AllWork.of.Goals as goal

pub close-requires-clause-seats : goal.close-requires-clause-seats
close-requires-clause-seats c = rw c.in_ok-takings.ensures.seats (all_single c.args.claims c.args.works.items c.requires.works)

pub unmade_of-unmade-requires : goal.unmade_of-unmade-requires
unmade_of-unmade-requires c = rw c.deref-3.ensures.value (have_unmade c.args.claims c.args.works.items c.requires.works)

pub returns-clause-each : goal.returns-clause-each
returns-clause-each c = λ same none.
    rw c.in_ok-takings.ensures.takings (taken_each c.args.claims c.args.works.items c.requires.works
    (rw (c.if-has_end.false, c.deref.ensures.value) at c.has_end.ensures) (rw (same, c.deref-2.ensures.value) at c.has_end-foreign.ensures)
    (rw c.in_ok-takings.ensures.seats at c.close.ensures) (rw c.deref-3.ensures.value at (c.unmade_of-unmade.ensures.none none)))

pub returns-clause-before : goal.returns-clause-before
returns-clause-before c = λ same.
    rw c.in_ok-takings.ensures.takings (taken_before_unmade c.args.claims c.args.works.items c.requires.works
    (rw (c.if-has_end.false, c.deref.ensures.value) at c.has_end.ensures) (rw (same, c.deref-2.ensures.value) at c.has_end-foreign.ensures)
    (rw c.in_ok-takings.ensures.seats at c.close.ensures) c.unmade_of-unmade.result (rw c.deref-3.ensures.value at c.unmade_of-unmade.ensures))
