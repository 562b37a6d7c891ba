use Rattle.std.proofs.Common.{ap}
use Rattle.hash_workers.proofs.WorkLaws.{keeps_one, known_none, known_recorded}
use Rattle.hash_workers.proofs.work.Work.keep.Goals as goal
use Rattle.hash_workers.proofs.work.Work.keep.Goals.{in-Some+in_ok-outcome-in-Some, in-None}

pub returns-clause-keeps : goal.returns-clause-keeps
returns-clause-keeps g c =
    keeps_one c.args.origin.now _ c.args.number c.args.self.now.taken.items c.reserve.new.self.items c.push_reserved.new.self.items
    c.args.self.now.outcomes.items c.reserve-2.new.self.items c.push_reserved-2.new.self.items c.match-op.outcome _ _
    c.reserve.ensures.items c.push_reserved.ensures.items c.reserve-2.ensures.items c.push_reserved-2.ensures.items
    (elim c.match-op.branch [
      | in-Some+in_ok-outcome-in-Some w ↦ rw (w.in-Some.is, ap g.B.Recorder.told w.recorder-is, w.outcome-is)
          (known_recorded _ _ _ _ _ w.in_ok-outcome-in-Some.ensures)
      | in-None w ↦ rw (w.in-None.is, ap g.B.Recorder.told w.recorder-is, w.outcome-is) (known_none c.args.origin.now _)
    ])
