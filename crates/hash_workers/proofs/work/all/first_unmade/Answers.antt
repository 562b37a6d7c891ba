use Rattle.hash_workers.proofs.EndLaws.{least_more}
use Rattle.hash_workers.proofs.work.all.first_unmade.Goals as goal

pub loop-work-preserved : goal.loop-work-preserved
loop-work-preserved c =
    least_more c.args.works.now c.loop-work.work-index c.work-item.result _ _ c.loop-work-test.true c.work-item.is c.earlier-first.ensures
    c.loop-work.invariant
