use Rattle.std.proofs.Common.{rules, inl, inr, length, map, subst, List, ℕ, arith}
use Rattle.std.specs.Borrow.{Bor}
use Rattle.std.proofs.lemmas.List.{length-map}
use Rattle.measure_book.specs.Names.{book_outcome_of}
use Rattle.measure_book.specs.declared.op.Outcome.{Outcome}
use Rattle.measuring.specs.Measuring.{AreDone}
use Rattle.measuring.proofs.MeasuringLaws.{file_fault}
use Rattle.measuring.proofs.file_book.recorded.Goals as goal

pub returns-in-Err-Job-clause-fault : goal.returns-in-Err-Job-clause-fault
returns-in-Err-Job-clause-fault g c =
    let first = (c.record_jobs-recorded.ensures.job c.in-Err-Job.job c.in-Err-Job.fault (search rules)).0 in
    inl (file_fault _ _ _ c.in-Err-Job.job c.fault_of.result first.within c.fault_of.ensures
    (λ earlier below. (first.before earlier below).1.file))

pub fault_of-requires-clause-number : goal.fault_of-requires-clause-number
fault_of-requires-clause-number g c =
    omega (
      arith,
      (c.record_jobs-recorded.ensures.job c.in-Err-Job.job c.in-Err-Job.fault (search rules)).0.within,
      length-map c.args.jobs.now.names.now (λ (name : Bor (List ℕ)). name.now),
    )

pub returns : goal.returns
returns g c = record {
  measured = tt;
  fault = inr (inl (record {
    first = c.in-Err-Agent.fault;
    first_is = search rules;
    among = search rules;
    says = search rules;
    after_files = search rules;
  }));
}

pub returns-in-None-clause-measured : goal.returns-in-None-clause-measured
returns-in-None-clause-measured g c = record {
  outcomes = _;
  by = _;
  book_is = c.in-Ok.ensures.is_book;
  batch = c.in-Ok.ensures.batch;
  refusal_is = subst (λ (outcomes : List Outcome). AreDone (map book_outcome_of outcomes) (length (map book_outcome_of outcomes)))
      c.deref.ensures.value c.in-None.ensures.none;
}
