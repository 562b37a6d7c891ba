use Rattle.std.proofs.Common.{arith}
use Rattle.hash_workers.specs.Names.{IsNumberOfWorkers}
use Rattle.hash_workers.proofs.FaultLaws.{opening_fault}
use Rattle.hash_workers.proofs.SettlingLaws.{settled_reason, settled_fault, settled_job, settled_number}
use Rattle.hash_workers.proofs.batch.record_jobs.Goals as goal

pub returns-in_err-book-clause-fault : goal.returns-in_err-book-clause-fault
returns-in_err-book-clause-fault g c =
    let number : IsNumberOfWorkers c.args.workers = (omega arith, omega arith) in
    opening_fault c.args.workers c.args.origin c.in_err-book.field-0.0 c.from_residual.result number c.in_err-book.ensures.refused
    c.from_residual.ensures.1

pub returns-clause-fault : goal.returns-clause-fault
returns-clause-fault g c =
    let number : IsNumberOfWorkers c.args.workers = (omega arith, omega arith) in
    settled_fault c.args.workers c.args.origin c.in_ok-book-2.all c.in_ok-book-2.book c.settle.result (number, c.in_ok-book.ensures.opened.may_open)
    c.settle.ensures.fault

pub returns-clause-workers : goal.returns-clause-workers
returns-clause-workers g c =
    let number : IsNumberOfWorkers c.args.workers = (omega arith, omega arith) in (
      λ is _. settled_number c.args.origin c.in_ok-book-2.all c.in_ok-book-2.book c.settle.result c.settle.ensures.fault is,
      λ wrong. absurd (wrong number),
    )

pub returns-clause-job : goal.returns-clause-job
returns-clause-job g c = λ job fault is.
    settled_job c.args.workers c.args.origin (g.J.Jobs.total c.args.jobs.now) (g.J.Jobs.makes c.args.jobs.now c.args.origin.alg)
    (g.J.Jobs.fails c.args.jobs.now) c.in_ok-book-2.all c.in_ok-book-2.ensures c.in_ok-book-2.book job fault c.settle.result
    c.settle.ensures.fault is

pub returns-clause-gather : goal.returns-clause-gather
returns-clause-gather g c = λ reason is.
    settled_reason c.args.workers c.args.origin (g.J.Jobs.total c.args.jobs.now) (g.J.Jobs.makes c.args.jobs.now c.args.origin.alg)
    (g.J.Jobs.fails c.args.jobs.now) c.in_ok-book-2.all c.in_ok-book-2.ensures c.in_ok-book-2.book reason c.settle.result
    c.settle.ensures.fault is
