use Rattle.hash_workers.proofs.EndLaws.{has_end_here, no_end_more}
use Rattle.hash_workers.proofs.work.all.has_end.Goals as goal

pub returns-then-eq : goal.returns-then-eq
returns-then-eq c = has_end_here c.args.works.now c.args.end c.loop-work.work-index c.work-item.result c.eq.result c.loop-work-test.true
    c.work-item.is c.eq.ensures c.if-eq.true

pub loop-work-preserved : goal.loop-work-preserved
loop-work-preserved c = no_end_more c.args.works.now c.args.end c.loop-work.work-index c.work-item.result c.eq.result
    c.loop-work-test.true c.work-item.is c.eq.ensures c.if-eq.false c.loop-work.invariant
