use Rattle.std.proofs.Common.{inl}
use Rattle.hash_workers.proofs.WorkLaws.{takes_made, takes_none, unmade_kept, unmade_noted, turn_after}
use Rattle.hash_workers.proofs.work.Work.take.Goals as goal

pub returns-in_ok-pass-in-Ok-clause-takes : goal.returns-in_ok-pass-in-Ok-clause-takes
returns-in_ok-pass-in-Ok-clause-takes g c =
    takes_made _ _ _ c.args.number _ _ _ _ _ _ c.requires _ c.in-Ok.ensures c.in_ok-pass-in-Ok.ensures.keeps

pub returns-in_ok-pass-in-Ok-clause-unmade : goal.returns-in_ok-pass-in-Ok-clause-unmade
returns-in_ok-pass-in-Ok-clause-unmade g c =
    let passed = c.in_ok-pass-in-Ok.ensures in
    unmade_kept _ _ _ c.args.number _ _ passed.keeps.takes _ _ _ c.in-Ok.ensures passed.same.2

pub returns-in_ok-pass-in-Err-clause-takes : goal.returns-in_ok-pass-in-Err-clause-takes
returns-in_ok-pass-in-Err-clause-takes g c =
    let same = c.note.ensures.same in
    rw (same.2, same.3) (takes_none _ _ _ c.args.number _ _ _ _ _ _ c.requires c.in_ok-pass-in-Err.ensures.keeps)

pub returns-in_ok-pass-in-Err-clause-unmade : goal.returns-in_ok-pass-in-Err-clause-unmade
returns-in_ok-pass-in-Err-clause-unmade g c =
    let passed = c.in_ok-pass-in-Err.ensures in
    rw c.note.ensures.same.2 (unmade_noted _ _ _ c.args.number _ _ passed.keeps.takes _ _ _ c.requires c.in-Err.ensures
    (rw passed.same.2 at c.note.ensures.noted))

pub returns-in_ok-pass-in-Ok-clause-turn : goal.returns-in_ok-pass-in-Ok-clause-turn
returns-in_ok-pass-in-Ok-clause-turn g c = inl (_, c.in-Ok.ensures)

pub returns-in_ok-pass-in-Err-clause-turn : goal.returns-in_ok-pass-in-Err-clause-turn
returns-in_ok-pass-in-Err-clause-turn g c =
    turn_after (g.J.Jobs.makes c.args.jobs.now c.args.origin.now.alg) (g.J.Jobs.fails c.args.jobs.now) c.args.number _ c.note.result c.in-Err.ensures c.note.ensures.next c.note.ensures.last
