-- Why no book was opened, as the agent's fault.
use Rattle.std.proofs.Common.{arith, ◌≡◌, ◌≢◌, ℕ, Option, Some, None, refl, ap, ◌∙◌}
use Rattle.std.specs.Prelude.{unwrap_or, Result, Ok, Err, MatchResult}
use Rattle.std.specs.Result.{IsErrAnd}
use Rattle.measure_book.specs.declared.origin.Origin.{Origin}
use Rattle.measure_book.specs.declared.fault.BookFault.{BookFault}
use Rattle.measure_book.specs.declared.fault.BookFault.TheVariants.{Memory}
use Rattle.measure_book.specs.Names.{open_refusal_of}
use Rattle.hash_workers.specs.declared.batch.Batch.{Batch}
use Rattle.hash_workers.specs.declared.fault.JobsFault.{JobsFault}
use Rattle.hash_workers.specs.Names.{IsAgentFaultOf, IsJobsFaultOf, IsNumberOfWorkers, MayBegin, fault_of_book, jobs_fault_of_book}

never_memory : (origin : Origin) → open_refusal_of origin ≡ Some Memory → ⊥
never_memory origin is = grind arith

book_fault : (workers : ℕ) (origin : Origin) (fault : BookFault) → fault ≢ Memory → IsNumberOfWorkers workers
    → open_refusal_of origin ≡ Some fault
    → IsAgentFaultOf workers origin (fault_of_book fault)
book_fault workers origin Memory other number is = absurd (other refl)
book_fault workers origin fault other number is = (number, is)

fault_of : (workers : ℕ) (origin : Origin) (fault : BookFault) (refusal : Option BookFault) → open_refusal_of origin ≡ refusal
    → IsNumberOfWorkers workers
    → fault ≡ unwrap_or refusal Memory → IsAgentFaultOf workers origin (fault_of_book fault)
fault_of workers origin fault None none number is = rw is (number, none)
fault_of workers origin fault (Some other) some number is =
    rw is (book_fault workers origin other (λ memory. never_memory origin (some ∙ ap (λ (f : BookFault). Some f) memory)) number some)

pub opening_fault : (workers : ℕ) (origin : Origin) (fault : BookFault) (result : Result Batch JobsFault) → IsNumberOfWorkers workers
    → fault ≡ unwrap_or (open_refusal_of origin) Memory → IsErrAnd result (λ f. f ≡ jobs_fault_of_book fault)
    → MatchResult result (λ _. MayBegin workers origin) (IsJobsFaultOf workers origin)
opening_fault workers origin fault (Ok batch) number is gives = absurd gives
opening_fault workers origin fault (Err found) number is gives =
    rw gives (fault_of workers origin fault (open_refusal_of origin) refl number is)
