-- Full accounts of the workers' outcomes, in the order of the jobs, are a batch.
use Rattle.std.proofs.Common.{◌≡◌, ◌≢◌, ℕ, ◌<◌, Bool, true, false, List, length, map, Option, Some, None, sym, ap, ◌∙◌, inl, inr, arith}
use Rattle.std.specs.Prelude.{◌==◌, slice_get, if◌then◌else◌, Vec}
use Rattle.std.specs.Option.{option_or}
use Rattle.std.specs.declared.alloc.Global.{Global}
use Rattle.std.proofs.lemmas.List.{length-map}
use Rattle.std.proofs.lemmas.Bool.{cases_lt, eq-eqb}
use Rattle.std.proofs.lemmas.Option.{same_Some, none-some, slice_get_within}
use Rattle.measure_book.specs.declared.origin.Origin.{Origin}
use Rattle.measure_book.specs.declared.op.Outcome.{Outcome}
use Rattle.measure_book.specs.declared.fault.BookFault.{BookFault}
use Rattle.measure_book.specs.declared.fault.BookFault.TheVariants.{Full, Memory}
use Rattle.measure_book.specs.Names.{AccountsForAll, BookOp, BookOutcome, BookReceipt, BookState, HasReceipt, IsNamed, SaysFull, book_outcome_of, done, groups_of, op_refusal, outcome_at, refusal_of, refused}
use Rattle.measure_book.specs.Groups as groups
use Rattle.hash_workers.specs.Names.{ArePairs, AreScattered, IsBatchOf, IsOutcomeOf, IsReceiptOfJob, IsRefusalOfJob, NumbersRiseForEach, Took, got_at, items_of}
use Rattle.hash_workers.proofs.ListLaws.{at_list, at_map, equal_of, in_mapped, list_at, map_at, within_at}
use Rattle.hash_workers.proofs.TakingLaws.{TakeEach}

-- ---- the gathered groups are the workers' outcomes

in_groups : (gs : List (Vec Outcome Global)) (worker i : ℕ) (outcome : Outcome) → got_at (map items_of gs) worker i ≡ Some outcome
    → outcome_at (groups_of gs) worker i ≡ Some (book_outcome_of outcome)
in_groups gs worker i outcome got =
    let from = in_mapped items_of gs worker i outcome got in
    at_list (groups_of gs) worker i (map book_outcome_of from.0.items) (book_outcome_of outcome)
    (at_map groups.outcomes_of gs worker from.0 from.1) (at_map book_outcome_of from.0.items i outcome from.2)

pub from_groups : (gs : List (Vec Outcome Global)) (worker i : ℕ) (b : BookOutcome) → outcome_at (groups_of gs) worker i ≡ Some b
    → (x : Outcome) × (got_at (map items_of gs) worker i ≡ Some x) × (book_outcome_of x ≡ b)
from_groups gs worker i b has =
    let from = in_mapped groups.outcomes_of gs worker i b has in
    let one = map_at book_outcome_of from.0.items i b from.2 in
    (one.0, at_list (map items_of gs) worker i from.0.items one.0 (at_map items_of gs worker from.0 from.1) one.1, one.2)

-- ---- jobs and outcomes stand at the same indices

-- Where two lists of lists are as long, and so are the lists at each place, what stands in one has something beside it in the other.
beside : {A B : Type 0} (ones : List (List A)) (others : List (List B)) (worker i : ℕ) (a : A) → length ones ≡ length others
    → ((at : ℕ) (one : List A) (other : List B) → slice_get ones at ≡ Some one → slice_get others at ≡ Some other
    → length one ≡ length other)
    → got_at ones worker i ≡ Some a → (b : B) × (got_at others worker i ≡ Some b)
beside ones others worker i a size sizes got =
    let one = list_at ones worker i a got in
    let within = slice_get_within ones worker one.0 one.1 in
    let other = within_at others worker (omega arith) in
    let same = sizes worker one.0 other.0 one.1 other.1 in
    let inside = slice_get_within one.0 i a one.2 in
    let here = within_at other.0 i (omega arith) in
    (here.0, at_list others worker i other.0 here.0 other.1 here.1)

outcome_for : {X : Type 0} (takings : List (List ℕ)) (gs : List (List X)) (worker i job : ℕ) → ArePairs takings gs
    → Took takings worker i job → (x : X) × (got_at gs worker i ≡ Some x)
outcome_for takings gs worker i job pairs took = beside takings gs worker i job (sym pairs.workers)
    (λ at taken group has also. sym (pairs.each at taken group has also)) took

pub job_for : {X : Type 0} (takings : List (List ℕ)) (gs : List (List X)) (worker i : ℕ) (x : X) → ArePairs takings gs
    → got_at gs worker i ≡ Some x → (job : ℕ) × Took takings worker i job
job_for takings gs worker i x pairs got =
    beside gs takings worker i x pairs.workers (λ at group taken has also. pairs.each at taken group also has) got

-- The worker that did the job, and the job's index among its jobs.
record Source (takings : List (List ℕ)) (gs : List (Vec Outcome Global)) (by : List ℕ) (job : ℕ) (outcome : BookOutcome) : Type 0 where
  worker : ℕ
  index : ℕ
  took : Took takings worker index job
  has : outcome_at (groups_of gs) worker index ≡ Some outcome
  by_is : slice_get by job ≡ Some worker

-- ---- refusals at the book's end

by_test : (b d : Bool) (fault : BookFault) → (if b then Some Full else None) ≡ Some fault → (fault ≡ Full → d ≡ true)
    → (if d then Some Full else None) ≡ Some fault
by_test true d fault is full = let same : Full ≡ fault = same_Some Full fault is in rw (full (sym same)) is
by_test false d fault is full = absurd (none-some fault is)

or_full : (refusal : Option BookFault) (n m limit : ℕ) (fault : BookFault)
    → option_or refusal (if n == limit then Some Full else None) ≡ Some fault
    → (fault ≡ Full → m ≡ limit) → option_or refusal (if m == limit then Some Full else None) ≡ Some fault
or_full (Some other) n m limit fault is full = is
or_full None n m limit fault is full = by_test (n == limit) (m == limit) fault is (λ same. eq-eqb m limit (full same))

refusal_at_end : (origin : Origin) (n m : ℕ) (op : BookOp) (fault : BookFault) → refusal_of origin n op ≡ Some fault
    → (fault ≡ Full → m ≡ origin.limit)
    → refusal_of origin m op ≡ Some fault
refusal_at_end origin n m op fault is full = or_full (op_refusal origin op) n m origin.limit fault is full

-- ---- the batch

done_op : (origin : Origin) (count : ℕ) (Makes : ℕ → BookOp → Type 0) (job : ℕ) (receipt : BookReceipt)
    → IsOutcomeOf origin count Makes job (done receipt) → IsReceiptOfJob Makes job receipt
done_op origin count Makes job receipt of = elim of.becomes [
  | inl memory ↦ absurd cc
  | inr made ↦ record { op = made.0; has = made.1; operation = made.2 }
]

refused_op : (origin : Origin) (count : ℕ) (Makes : ℕ → BookOp → Type 0) (records job : ℕ) (fault : BookFault)
    → IsOutcomeOf origin count Makes job (refused fault) → fault ≢ Memory
    → (fault ≡ Full → records ≡ origin.limit) → IsRefusalOfJob origin Makes records job fault
refused_op origin count Makes records job fault of not_memory full = elim of.becomes [
  | inl memory ↦ absurd (not_memory cc)
  | inr made ↦ elim made.2 [
    | inl memory ↦ absurd (not_memory memory)
    | inr reason ↦ record {
      op = made.0;
      has = made.1;
      refusal = refusal_at_end origin reason.0 records made.0 fault reason.1 full;
    }
  ]
]

-- All that is known once the outcomes are scattered.
pub record IsSettled (origin : Origin) (count : ℕ) (Makes : ℕ → BookOp → Type 0) (workers : ℕ) (book : BookState) (takings : List (List ℕ))
    (gs : List (Vec Outcome Global))
    (outcomes : List Outcome) (by : List ℕ) : Type 0 where
  pub one_each : length takings ≡ workers
  pub of_jobs : (worker i job : ℕ) (outcome : BookOutcome) → Took takings worker i job → outcome_at (groups_of gs) worker i ≡ Some outcome
      → IsOutcomeOf origin count Makes job outcome
  pub hands : TakeEach count takings
  pub rises : NumbersRiseForEach takings
  pub pairs : ArePairs takings (map items_of gs)
  pub scattered : AreScattered takings (map items_of gs) 0 outcomes by
  pub accounts : AccountsForAll book origin (groups_of gs)
  pub outcomes_len : length outcomes ≡ count
  pub by_len : length by ≡ count

module _ (origin : Origin) (count : ℕ) (Makes : ℕ → BookOp → Type 0) (workers : ℕ) (book : BookState) (takings : List (List ℕ))
    (gs : List (Vec Outcome Global)) (outcomes : List Outcome) (by : List ℕ)
    (s : IsSettled origin count Makes workers book takings gs outcomes by) where
  abbrev Receipts : ℕ → ℕ → BookReceipt → Type 0
  Receipts worker i receipt = HasReceipt (groups_of gs) worker i receipt

  below_workers : (job worker : ℕ) → slice_get by job ≡ Some worker → worker < workers
  below_workers job worker has =
      let within = slice_get_within by job worker has in
      let by_len = s.by_len in
      let taken = s.hands.each job (omega arith) in
      let got = outcome_for takings (map items_of gs) taken.worker taken.index job s.pairs taken.took in
      let placed = s.scattered.each taken.worker taken.index job got.0 (omega arith) taken.took got.1 in
      let same : taken.worker ≡ worker = same_Some taken.worker worker (sym placed.1 ∙ has) in
      let list = list_at takings taken.worker taken.index job taken.took in
      let inside = slice_get_within takings taken.worker list.0 list.1 in
      let one_each = s.one_each in
      omega arith

  source : (job : ℕ) (outcome : BookOutcome) → slice_get (map book_outcome_of outcomes) job ≡ Some outcome
      → Source takings gs by job outcome
  source job outcome has =
      let from = map_at book_outcome_of outcomes job outcome has in
      let within = slice_get_within outcomes job from.0 from.1 in
      let size = s.outcomes_len in
      let taken = s.hands.each job (omega arith) in
      let got = outcome_for takings (map items_of gs) taken.worker taken.index job s.pairs taken.took in
      let placed = s.scattered.each taken.worker taken.index job got.0 (omega arith) taken.took got.1 in
      let same : got.0 ≡ from.0 = same_Some got.0 from.0 (sym placed.0 ∙ from.1) in
      record {
        worker = taken.worker;
        index = taken.index;
        took = taken.took;
        has = in_groups gs taken.worker taken.index got.0 got.1 ∙ ap (λ (b : BookOutcome). Some b) (ap book_outcome_of same ∙ from.2);
        by_is = placed.1;
      }

  -- Two receipts of the same place are of the same worker and index.
  same_source : (worker other i k : ℕ) (receipt another : BookReceipt) → Receipts worker i receipt → Receipts other k another
      → receipt.place ≡ another.place → (worker ≡ other) × (i ≡ k)
  same_source worker other i k receipt another has also same =
      let one = equal_of worker other (λ less. s.accounts.apart.each worker other i k receipt another less has also same)
      (λ more. s.accounts.apart.each other worker k i another receipt more also has (sym same)) in
      let here = rw one at has in (
        one,
        equal_of i k (λ less. let rises = s.accounts.rise.each other i k receipt another less here also in omega arith)
            (λ more. let rises = s.accounts.rise.each other k i another receipt more also here in omega arith),
      )

  rise_by : (worker i k first second : ℕ) (earlier later : BookReceipt) → first < second → Took takings worker i first
      → Took takings worker k second → Receipts worker i earlier → Receipts worker k later → earlier.place < later.place
  rise_by worker i k first second earlier later order took also has too = elim (cases_lt i k) [
    | inl less ↦ s.accounts.rise.each worker i k earlier later less has too
    | inr more ↦ elim (cases_lt k i) [
      | inl less ↦ let turned = s.rises.each worker k i second first less also took in absurd (omega arith)
      | inr past ↦
          let same : k ≡ i = omega arith in
          let one : first ≡ second = same_Some first second (sym took ∙ (rw same at also)) in absurd (omega arith)
    ]
  ]

  pub batch_of : IsBatchOf origin count Makes workers book (map book_outcome_of outcomes) by
  batch_of = record {
    origin_is = s.accounts.origin_is;
    outcomes_of_all = length-map outcomes book_outcome_of ∙ s.outcomes_len;
    workers_of_all = s.by_len;
    worker_below = below_workers;
    receipts = λ job receipt has.
        let from = source job (done receipt) has in
        done_op origin count Makes job receipt (s.of_jobs from.worker from.index job (done receipt) from.took from.has);
    names = λ job receipt has.
        let from = source job (done receipt) has in s.accounts.names.each from.worker from.index receipt from.has;
    apart = λ job other receipt another has also same.
        let from = source job (done receipt) has in
        let there = source other (done another) also in
        let one = same_source from.worker there.worker from.index there.index receipt another from.has there.has same in
        same_Some job other (sym (rw (one.0, one.1) at from.took) ∙ there.took);
    named = λ place later within.
        let named = s.accounts.named.each place later within in
        let got = from_groups gs named.group named.index (done named.receipt) named.stands in
        let job = job_for takings (map items_of gs) named.group named.index got.0 s.pairs got.1 in
        let placed = s.scattered.each named.group named.index job.0 got.0 (omega arith) job.1 got.1 in
        record {
          job = job.0;
          receipt = named.receipt;
          is_done = at_map book_outcome_of outcomes job.0 got.0 placed.0 ∙ ap (λ (b : BookOutcome). Some b) got.2;
          place_is = named.place_is;
        };
    rise = λ worker first second earlier later order by_first by_second has also.
        let from = source first (done earlier) has in
        let there = source second (done later) also in
        let one : from.worker ≡ there.worker = same_Some from.worker there.worker (sym from.by_is ∙ by_first ∙ sym by_second ∙ there.by_is)
        in
        rise_by there.worker from.index there.index first second earlier later order (rw one at from.took) there.took
        (rw one at from.has) there.has;
    refusals = λ job fault has not_memory.
        let from = source job (refused fault) has in
        let of_job = s.of_jobs from.worker from.index job (refused fault) from.took from.has in
        refused_op origin count Makes (length book.records) job fault of_job not_memory (λ full.
        s.accounts.full (record {
          group = from.worker;
          index = from.index;
          stands = from.has ∙ ap (λ (f : BookFault). Some (refused f)) full;
        })
        ∙ ap (λ (o : Origin). o.limit) s.accounts.origin_is);
  }
