-- The operation that a job is recorded as (this project's choice).
use Rattle.std.specs.Prelude.{List, map}
use Rattle.pcr_banks.specs.declared.alg.Alg.{Alg}
use Rattle.pcr_banks.specs.Names.{hash_of}
use Rattle.measure_book.specs.Names.{BookOp, measure, read, violation}
use Rattle.hash_workers.specs.declared.job.Job.{Job}
use Rattle.hash_workers.specs.declared.job.Job.TheVariants as jobs

-- The operation of a job: of a file, the measurement of its path, the hash of its content by the algorithm, and its signature; of
-- a violation or a read, itself.
abbrev pub operation_of : Alg → Job → BookOp
operation_of alg (jobs.File path content sig) = measure
    (record { alg = alg; digest = hash_of alg content.items; path = path.items; sig = sig })
operation_of alg (jobs.Violation path) = violation path.items
operation_of alg (jobs.Read bank register) = read bank register

abbrev pub operations_of : Alg → List Job → List BookOp
operations_of alg jobs' = map (operation_of alg) jobs'
