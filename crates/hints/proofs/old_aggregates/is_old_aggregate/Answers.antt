use Rattle.hints.proofs.OldLaws.{said_of}
use Rattle.hints.proofs.old_aggregates.is_old_aggregate.Goals as goal

pub returns-in-Some-3-clause-said : goal.returns-in-Some-3-clause-said
returns-in-Some-3-clause-said g c =
    let left = rw c.in-Some-2.is at c.in_ok-registers.ensures.left in
    let looked = rw (c.in-Some-3.is, c.in_ok-registers.ensures.inputs) at c.in_ok-head.ensures.head in
    rw (← c.in-Some.ensures, ← c.in-Some-list_of.ensures)
    (said_of (g.F.Files.inputs c.args.files.now) _ _ c.in-Some-2.registers c.in-Some-3.head.items c.begins_with_old.result left looked
    (rw c.deref.ensures.value at c.begins_with_old.ensures))
