use Rattle.std.proofs.lemmas.List.{length-map}
use Rattle.hash_workers.specs.Names.{operation_of}
use Rattle.hash_workers.proofs.batch.measure_files.Goals as goal

pub returns-in-Ok-clause-batch : goal.returns-in-Ok-clause-batch
returns-in-Ok-clause-batch g c =
    rw (length-map c.args.jobs.now (operation_of c.args.origin.alg)) c.in-Ok.ensures.batch

pub returns-in-Ok-clause-workers : goal.returns-in-Ok-clause-workers
returns-in-Ok-clause-workers g c =
    (λ is. absurd cc, λ wrong. absurd (let never = c.in-Ok.ensures.workers.1 wrong in cc))

pub returns-in-Ok-clause-book : goal.returns-in-Ok-clause-book
returns-in-Ok-clause-book g c = λ fault number refusal. absurd (let never = c.in-Ok.ensures.book fault number refusal in cc)
