use Rattle.std.proofs.Common.{◌≡◌, arith}
use Rattle.hash_workers.proofs.SeatLaws.{hand_back}
use Rattle.hash_workers.proofs.SettlingLaws.{all_work}
use Rattle.hash_workers.proofs.batch.all_taken.Goals as goal

pub of-requires-clause-works : goal.of-requires-clause-works
of-requires-clause-works g c =
    hand_back c.args.origin.now (g.J.Jobs.makes c.args.jobs.now c.args.origin.now.alg) (g.J.Jobs.fails c.args.jobs.now) c.in_ok-claims.claims
    c.in_ok-book.works.items c.in_ok-book.ensures

pub returns : goal.returns
returns g c =
    let jobs : c.in_ok-claims.claims.jobs ≡ g.J.Jobs.total c.args.jobs.now = omega (arith, c.in_ok-claims.ensures.claims.0, c.count-count.ensures) in
    rw (jobs, c.in_ok-claims.ensures.claims.1) at
    (all_work c.args.origin.now (g.J.Jobs.makes c.args.jobs.now c.args.origin.now.alg) (g.J.Jobs.fails c.args.jobs.now) c.in_ok-claims.claims
    c.in_ok-book.works.items c.in_ok-book.ensures c.in_ok-all.all (rw (c.count-count.ensures, ← jobs) at c.in_ok-all.ensures.made)
    c.in_ok-all.ensures.each c.in_ok-all.ensures.before)
