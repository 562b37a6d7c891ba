use Rattle.std.proofs.Common.{◌≡◌, ℕ, List, ap, map}
use Rattle.pcr_banks.specs.declared.alg.Alg.TheVariants.{Sha256}
use Rattle.measure_book.specs.declared.origin.Origin.{Origin}
use Rattle.measure_book.specs.Names.{BookOp, BookOutcome, BookState, book_outcome_of}
use Rattle.hash_workers.specs.Names.{IsBatch, operations_of}
use Rattle.uses.proofs.workers.measure_by_four.Goals as goal

-- A batch of one origin is one of the same origin by another name.
batch_by : (origin other : Origin) (ops : List BookOp) (workers : ℕ) (book : BookState) (outcomes : List BookOutcome) (by : List ℕ)
    → other ≡ origin → IsBatch origin ops workers book outcomes by → IsBatch other ops workers book outcomes by
batch_by origin other ops workers book outcomes by same batch = rw same batch

pub returns-clause-batch : goal.returns-clause-batch
returns-clause-batch g c =
    let after = c.in_ok-origin.ensures.origin in
    let origin = c.in_ok-origin.origin in
    let batch = c.in_ok-measure_files.field-0 in
    let done = c.in_ok-measure_files.ensures.batch in
    let ops = operations_of Sha256 c.args.jobs.now in
    let outcomes = map book_outcome_of batch.outcomes.items in
    let of_jobs : IsBatch origin ops 4 batch.book outcomes batch.by.items = rw (← ap (λ origin. origin.alg) after.origin_is) done in
    record {
      origin_is = rw done.origin_is after;
      batch = batch_by origin batch.book.origin ops 4 batch.book outcomes batch.by.items done.origin_is of_jobs;
    }
