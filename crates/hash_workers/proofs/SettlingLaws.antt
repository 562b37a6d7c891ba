-- What all workers did, how it is settled, and why it cannot be.
use Rattle.std.proofs.Common.{◌≡◌, ◌≢◌, ℕ, zero, suc, ◌<◌, Bool, true, false, List, [], length, map, Option, None, Some, refl, sym, ap, ◌∙◌, inl, inr, arith}
use Rattle.std.specs.Prelude.{slice_get, replicate, unwrap_or, Vec, Result, Ok, Err, IfErr, IfSome, MatchResult}
use Rattle.std.specs.declared.alloc.Global.{Global}
use Rattle.std.proofs.lemmas.List.{length-map}
use Rattle.std.proofs.lemmas.Option.{same_Some, none-some, slice_get_within}
use Rattle.measure_book.specs.declared.origin.Origin.{Origin}
use Rattle.measure_book.specs.declared.op.Outcome.{Outcome}
use Rattle.measure_book.specs.declared.gathers.GatherFault.{GatherFault}
use Rattle.measure_book.specs.declared.gathers.GatherFault.TheVariants as gathers
use Rattle.measure_book.specs.Names.{BookOp, BookOutcome, BookState, IsBook, IsFirstFault, book_outcome_of, groups_of, outcome_at}
use Rattle.hash_workers.specs.declared.batch.Batch.{Batch}
use Rattle.hash_workers.specs.declared.fault.AgentFault.{AgentFault}
use Rattle.hash_workers.specs.declared.fault.AgentFault.TheVariants as agents
use Rattle.hash_workers.specs.declared.fault.JobFault.{JobFault}
use Rattle.hash_workers.specs.declared.fault.JobFault.TheVariants as reasons
use Rattle.hash_workers.specs.declared.fault.JobsFault.{JobsFault}
use Rattle.hash_workers.specs.declared.fault.JobsFault.TheVariants as jobs
use Rattle.hash_workers.specs.declared.work.End.TheVariants.{NoOperation}
use Rattle.hash_workers.specs.declared.work.Unmade.{Unmade}
use Rattle.hash_workers.specs.declared.work.Work.{Work}
use Rattle.hash_workers.specs.declared.work.all.AllWork.{AllWork}
use Rattle.hash_workers.specs.Names.{AllMadeUnlessMemory, AreTakenBefore, AreWorksOf, ClaimsState, HandsOutEach, HasNoEnd, IsAgentFaultOf, IsAllWork, IsFirstReason, IsFirstUnmade, IsFound, IsHad, IsJobsFaultOf, IsLeastUnmade, IsMadeOf, IsMadeUnlessMemory, IsOutcomeOf, IsReasonOf, IsUnmadeOf, IsUnsettled, MayBegin, Took, fault_for, fault_of_gather, fault_of_unmade, items_of, job_at, outcomes_by_worker, outcomes_of, taken_of, takings_of}
use Rattle.std.specs.List.{concat}
use Rattle.hash_workers.proofs.ListLaws.{at_map, in_mapped}
use Rattle.hash_workers.proofs.SeatLaws.{rises_of, pairs_of}
use Rattle.hash_workers.proofs.BatchLaws.{from_groups, job_for}
use Rattle.hash_workers.proofs.TakingLaws.{take_each}

-- ---- what all workers did

-- Each job that was taken and is before the first unmade job has an operation.
made_at : (Makes : ℕ → BookOp → Type 0) (works : List Work) (worker : ℕ) (work : Work) (job : ℕ) (first : Unmade) (unmade : Option Unmade)
    → work.unmade ≡ unmade → IsLeastUnmade works (length works) (Some first) → slice_get works worker ≡ Some work → job < first.job
    → IsHad Makes unmade job → (op : BookOp) × Makes job op
made_at Makes works worker work job first unmade is least stands before (inl made) = made
made_at Makes works worker work job first None is least stands before (inr never) = absurd never
made_at Makes works worker work job first (Some other) is least stands before (inr from) =
    let earlier = least.none_before worker work other (slice_get_within works worker work stands) stands is in absurd (omega arith)

module _ (origin : Origin) (Makes : ℕ → BookOp → Type 0) (Fails : ℕ → JobFault → Type 0) (claims : ClaimsState) (works : List Work)
    (are : AreWorksOf origin Makes Fails claims works) where
  of_job : (takings : List (List ℕ)) (gs : List (Vec Outcome Global)) (worker i job : ℕ) (outcome : BookOutcome)
      → takings ≡ map taken_of works → map items_of gs ≡ map outcomes_of works → Took takings worker i job
      → outcome_at (groups_of gs) worker i ≡ Some outcome → IsOutcomeOf origin claims.jobs Makes job outcome
  of_job takings gs worker i job outcome takings_are groups_are took has =
      let taken = in_mapped taken_of works worker i job (rw takings_are at took) in
      let got = from_groups gs worker i outcome has in
      let group = in_mapped outcomes_of works worker i got.0 (rw groups_are at got.1) in
      let same : group.0 ≡ taken.0 = same_Some group.0 taken.0 (sym group.1 ∙ taken.1) in
      (are.each worker taken.0 taken.1).worked.each i job outcome taken.2
      (at_map book_outcome_of taken.0.outcomes.items i got.0 (rw same at group.2) ∙ ap (λ (b : BookOutcome). Some b) got.2)

  first_unmade : (takings : List (List ℕ)) (unmade : Option Unmade) → IsUnmadeOf works unmade → takings ≡ map taken_of works
      → IfSome unmade (AreTakenBefore takings) → IfSome unmade (λ first. IsFirstUnmade claims.jobs Makes Fails first.job first.fault)
  first_unmade takings None of is before = tt
  first_unmade takings (Some first) of is before =
      let least = of.some (λ none. absurd (none-some first (sym none))) in
      let has = least.some in
      let right = rw has.has at (are.each has.worker has.work has.stands).unmade in
      record {
        within = right.within;
        reason = right.reason;
        before = λ job earlier.
            let taken = before job earlier in
            let one = in_mapped taken_of works taken.worker taken.index job (rw is at taken.took) in
            made_at Makes works taken.worker one.0 job first one.0.unmade refl least one.1 earlier
            ((are.each taken.worker one.0 one.1).had.each taken.index job one.2);
      }

  -- If no worker stopped for a job, the operation of each that was taken was made, unless memory ran out for it; and so it is of all
  -- jobs if each was taken.
  made_or_memory : (takings : List (List ℕ)) (worker index job : ℕ) → takings ≡ map taken_of works
      → HasNoEnd works NoOperation (length works) → Took takings worker index job → IsMadeUnlessMemory Makes Fails job
  made_or_memory takings worker index job is goes_on took =
      let one = in_mapped taken_of works worker index job (rw is at took) in
      let within = slice_get_within works worker one.0 one.1 in
      ((are.each worker one.0 one.1).made (goes_on.each worker one.0 within one.1)).each index job one.2

  all_made : (takings : List (List ℕ)) → takings ≡ map taken_of works → HasNoEnd works NoOperation (length works)
      → HandsOutEach claims.jobs (concat takings) → AllMadeUnlessMemory claims.jobs Makes Fails
  all_made takings is goes_on hands = record {
    each = λ job below.
        let taken = (take_each claims.jobs takings hands).each job below in
        made_or_memory takings taken.worker taken.index job is goes_on taken.took;
  }

  pub all_work : (all : AllWork) → IsMadeOf works claims.jobs all
      → (all.foreign ≡ false → all.unmade ≡ None → HandsOutEach claims.jobs (concat (takings_of all)))
      → (all.foreign ≡ false → IfSome all.unmade (AreTakenBefore (takings_of all)))
      → IsAllWork origin claims.jobs Makes Fails claims.seats all
  all_work all made each before = record {
    one_each = sym (length-map all.takings.items items_of) ∙ ap length made.takings ∙ length-map works taken_of ∙ are.one_each;
    pairs = pairs_of origin Makes Fails claims works are (takings_of all) (map items_of all.groups.items) made.takings made.groups;
    of_jobs = λ worker index job outcome took has.
        of_job (takings_of all) all.groups.items worker index job outcome made.takings made.groups took has;
    rise = rises_of origin Makes Fails claims works are (takings_of all) made.takings;
    each = each;
    made = λ same none. all_made (takings_of all) made.takings (made.unmade.none none) (each same none);
    unmade = λ same. first_unmade (takings_of all) all.unmade made.unmade made.takings (before same);
    found = λ foreign. let has = made.foreign foreign in rw has.ends at (are.each has.worker has.work has.stands).ends;
    places = made.places;
    places_by = made.places_by;
  }

-- ---- faults

gather_fault : (workers : ℕ) (origin : Origin) (reason : GatherFault) → MayBegin workers origin
    → IsAgentFaultOf workers origin (fault_of_gather reason)
gather_fault workers origin gathers.Memory may = may
gather_fault workers origin reason may = (may, λ same. cc)

fault_for_unmade : (workers : ℕ) (origin : Origin) (job : ℕ) (fault : JobFault) → MayBegin workers origin
    → IsJobsFaultOf workers origin (fault_for job fault)
fault_for_unmade workers origin job reasons.Memory may = may
fault_for_unmade workers origin job fault may = may

pub settled_fault : (workers : ℕ) (origin : Origin) (all : AllWork) (book : BookState) (result : Result Batch JobsFault)
    → MayBegin workers origin → IfErr result (IsUnsettled all book origin)
    → MatchResult result (λ _. MayBegin workers origin) (IsJobsFaultOf workers origin)
settled_fault workers origin all book (Ok batch) may known = may
settled_fault workers origin all book (Err fault) may (inl known) = rw known.fault_is (gather_fault workers origin known.reason may)
settled_fault workers origin all book (Err fault) may (inr known) =
    rw known.fault_is (fault_for_unmade workers origin known.unmade.job known.unmade.fault may)

-- ---- what a fault tells

same_reason : (one other : GatherFault) → agents.Gather one ≡ fault_of_gather other → one ≡ other
same_reason one gathers.Memory is = cc
same_reason one other is = cc

-- Groups without an outcome, of which `ForeignBook` is the first reason as of any.
abbrev no_outcomes : ℕ → List (List BookOutcome)
no_outcomes workers = replicate workers []

none_at : (workers worker index : ℕ) (outcome : BookOutcome) → outcome_at (no_outcomes workers) worker index ≡ Some outcome → ⊥
none_at zero worker index outcome has = none-some outcome has
none_at (suc workers) zero index outcome has = none-some outcome has
none_at (suc workers) (suc worker) index outcome has = none_at workers worker index outcome has

replicated : (workers : ℕ) → length (no_outcomes workers) ≡ workers
replicated zero = refl
replicated (suc workers) = ap suc (replicated workers)

foreign_reason : (workers : ℕ) (origin : Origin) (count : ℕ) (Makes : ℕ → BookOp → Type 0) (reason : GatherFault) → IsFound origin
    → reason ≡ gathers.ForeignBook → IsReasonOf workers origin count Makes reason
foreign_reason workers origin count Makes reason found is = rw is (record {
  book = found.book;
  is_book = found.is_book;
  groups = no_outcomes workers;
  one_each = replicated workers;
  job_of = λ worker index. 0;
  of_jobs = λ worker index outcome has. absurd (none_at workers worker index outcome has);
  distinct = λ worker other index at outcome another has also same. absurd (none_at workers worker index outcome has);
  first = found.other;
})

-- The fault of an unmade job is neither one of `gather` nor a wrong number of workers.
unmade_no_agent : (job : ℕ) (fault : JobFault) (agent : AgentFault) → agent ≢ agents.Memory → jobs.Agent agent ≡ fault_for job fault → ⊥
unmade_no_agent job reasons.Memory agent other is = other cc
unmade_no_agent job fault agent other is = absurd cc

-- A fault of `gather` is not a wrong number of workers.
no_number : (reason : GatherFault) → agents.Workers ≡ fault_of_gather reason → ⊥
no_number gathers.Memory is = absurd cc
no_number reason is = absurd cc

pub settled_number : (origin : Origin) (all : AllWork) (book : BookState) (result : Result Batch JobsFault)
    → IfErr result (IsUnsettled all book origin) → result ≡ Err (jobs.Agent agents.Workers) → ⊥
settled_number origin all book (Ok batch) known is = absurd cc
settled_number origin all book (Err fault) (inl known) is =
    let same : agents.Workers ≡ fault_of_gather known.reason = cc known.fault_is in no_number known.reason same
settled_number origin all book (Err fault) (inr known) is =
    let same : jobs.Agent agents.Workers ≡ fault_of_unmade known.unmade = cc known.fault_is in
    unmade_no_agent known.unmade.job known.unmade.fault agents.Workers (λ memory. cc) same

-- The job that the fault names is the first unmade job.
job_of_unmade : (job other : ℕ) (fault : JobFault) (reason : JobFault) → jobs.Job job fault ≡ fault_for other reason
    → (job ≡ other) × (fault ≡ reason) × (fault ≢ reasons.Memory)
job_of_unmade job other fault reasons.Memory is = absurd cc
job_of_unmade job other fault reason is = (cc, cc, λ memory. cc)

module _ (workers : ℕ) (origin : Origin) (count : ℕ) (Makes : ℕ → BookOp → Type 0) (Fails : ℕ → JobFault → Type 0) (all : AllWork)
    (are : IsAllWork origin count Makes Fails workers all) (book : BookState) where
  -- Each of the workers' outcomes is one of the job that the worker took at its index.
  of_some_job : (worker index : ℕ) (outcome : BookOutcome) → outcome_at (outcomes_by_worker all) worker index ≡ Some outcome
      → (job : ℕ) × Took (takings_of all) worker index job × IsOutcomeOf origin count Makes job outcome
  of_some_job worker index outcome has =
      let got = from_groups all.groups.items worker index outcome has in
      let job = job_for (takings_of all) (map items_of all.groups.items) worker index got.0 are.pairs got.1 in
      (job.0, job.1, are.of_jobs worker index job.0 outcome job.1 has)

  abbrev job_of : ℕ → ℕ → ℕ
  job_of worker index = unwrap_or (job_at (takings_of all) worker index) 0

  took_of : (worker index : ℕ) (outcome : BookOutcome) → outcome_at (outcomes_by_worker all) worker index ≡ Some outcome
      → Took (takings_of all) worker index (job_of worker index) × IsOutcomeOf origin count Makes (job_of worker index) outcome
  took_of worker index outcome has =
      let one = of_some_job worker index outcome has in
      let same : job_of worker index ≡ one.0 = ap (λ (job : Option ℕ). unwrap_or job 0) one.1 in
      (rw same one.1, rw same one.2)

  distinct_jobs : HandsOutEach count (concat (takings_of all)) → (worker other index at : ℕ) (outcome another : BookOutcome)
      → outcome_at (outcomes_by_worker all) worker index ≡ Some outcome → outcome_at (outcomes_by_worker all) other at ≡ Some another
      → job_of worker index ≡ job_of other at → (worker ≡ other) × (index ≡ at)
  distinct_jobs hands worker other index at outcome another has also same =
      let one = (took_of worker index outcome has).0 in
      let there = (took_of other at another also).0 in
      (take_each count (takings_of all) hands).once worker other index at (job_of other at) (rw same at one) there

  reason_against : (reason : GatherFault) → HandsOutEach count (concat (takings_of all)) → IsBook book
      → IsFirstFault book origin (outcomes_by_worker all) reason → IsReasonOf workers origin count Makes reason
  reason_against reason hands is_book first =
      let pairs = are.pairs.workers in
      let takings = length-map all.takings.items items_of in
      let lists = length-map all.groups.items items_of in
      let groups = length-map all.groups.items (λ (v : Vec Outcome Global). map book_outcome_of v.items) in
      let one_each = are.one_each in
      record {
        book = book;
        is_book = is_book;
        groups = outcomes_by_worker all;
        one_each = omega arith;
        job_of = job_of;
        of_jobs = λ worker index outcome has. (took_of worker index outcome has).1;
        distinct = distinct_jobs hands;
        first = first;
      }

  reason_of : (reason : GatherFault) (foreign : Bool) → all.foreign ≡ foreign → (foreign ≡ false → all.unmade ≡ None)
      → IsFirstReason foreign book origin (outcomes_by_worker all) reason → IsReasonOf workers origin count Makes reason
  reason_of reason true is made first = foreign_reason workers origin count Makes reason (are.found is) first
  reason_of reason false is made first = reason_against reason (are.each is (made refl)) first.0 first.1

  pub settled_reason : (reason : GatherFault) (result : Result Batch JobsFault) → IfErr result (IsUnsettled all book origin)
      → result ≡ Err (jobs.Agent (agents.Gather reason)) → IsReasonOf workers origin count Makes reason
  settled_reason reason (Ok batch) known is = absurd cc
  settled_reason reason (Err fault) (inl known) is =
      let same : agents.Gather reason ≡ fault_of_gather known.reason = cc known.fault_is in
      reason_of reason all.foreign refl known.made (rw (same_reason reason known.reason same) known.first)
  settled_reason reason (Err fault) (inr known) is =
      let same : jobs.Agent (agents.Gather reason) ≡ fault_of_unmade known.unmade = cc known.fault_is in
      absurd (unmade_no_agent known.unmade.job known.unmade.fault (agents.Gather reason) (λ memory. cc) same)

  pub settled_job : (job : ℕ) (fault : JobFault) (result : Result Batch JobsFault) → IfErr result (IsUnsettled all book origin)
      → result ≡ Err (jobs.Job job fault) → IsFirstUnmade count Makes Fails job fault × (fault ≢ reasons.Memory)
  settled_job job fault (Ok batch) known is = absurd cc
  settled_job job fault (Err told) (inl known) is =
      let same : jobs.Job job fault ≡ jobs.Agent (fault_of_gather known.reason) = cc known.fault_is in absurd cc
  settled_job job fault (Err told) (inr known) is =
      let told_is : jobs.Job job fault ≡ fault_of_unmade known.unmade = cc known.fault_is in
      let same = job_of_unmade job known.unmade.job fault known.unmade.fault told_is in
      (rw (same.0, same.1) (rw known.first_is at (are.unmade known.same)), same.2)
