-- A worker's work, job by job.
use Rattle.std.proofs.Common.{◌≡◌, ◌≢◌, ℕ, zero, suc, ◌+◌, ◌-◌, ◌<◌, ◌≤◌, List, [], ◌∷◌, ◌++◌, length, get_or, Option, Some, None, refl, sym, ap, ◌∙◌, inl, inr, arith, map}
use Rattle.std.specs.Prelude.{◌⊎◌, slice_get, unwrap_or, IfSome, option_map}
use Rattle.std.proofs.lemmas.List.{map_push}
use Rattle.std.proofs.Math.Nat.{le_refl}
use Rattle.pcr_banks.specs.declared.alg.Alg.{Alg}
use Rattle.measure_book.specs.declared.op.Outcome.{Outcome}
use Rattle.std.specs.List.{All}
use Rattle.std.proofs.lemmas.Option.{slice_get-map, slice_get_read, slice_get_within, get_or_from_slice_get}
use Rattle.measure_book.specs.declared.origin.Origin.{Origin}
use Rattle.measure_book.specs.declared.fault.BookFault.{BookFault}
use Rattle.measure_book.specs.declared.fault.BookFault.TheVariants.{Memory}
use Rattle.measure_book.specs.Names.{BookOp, BookOutcome, BookRecord, BookState, book_outcome_of, done, records_after, refusal_of, refused}
use Rattle.hash_workers.specs.declared.work.End.{End}
use Rattle.hash_workers.specs.declared.work.End.TheVariants.{NoneLeft, OutOfMemory, NoOperation}
use Rattle.hash_workers.specs.declared.work.End.TheVariants as ends
use Rattle.hash_workers.specs.declared.job.Job.{Job}
use Rattle.hash_workers.specs.Names.{AreDoneInOrder, AreHad, AreMadeUnlessMemory, Becomes, IsDoneAfter, IsEntered, IsHad, IsMadeUnlessMemory, IsNoted, IsTakenUnmade, IsTurnAfter, IsUnmadeAfter, IsWorked, KeepsOne, MayBecome, NumbersRise, Records, StopsFor, TakesOne, TellsAll, TellsOp, TurnsPrivateBook, operation_of, operations_of}
use Rattle.hash_workers.specs.declared.fault.JobFault.{JobFault}
use Rattle.hash_workers.specs.declared.fault.JobFault.TheVariants as reasons
use Rattle.hash_workers.specs.declared.work.Turn.{Turn}
use Rattle.hash_workers.specs.declared.work.Turn.TheVariants.{Next, Last}
use Rattle.hash_workers.specs.declared.work.Unmade.{Unmade}
use Rattle.hash_workers.proofs.ListLaws.{at_last, at_longer, slice_get_snoc, length_snoc, within_at}

-- ---- one operation

refusal_cases : (refusal : Option BookFault) (fault : BookFault) → fault ≡ unwrap_or refusal Memory
    → (fault ≡ Memory) ⊎ (refusal ≡ Some fault)
refusal_cases None fault is = inl is
refusal_cases (Some other) fault is = inr (ap (λ (f : BookFault). Some f) (sym is))

may_become : (origin : Origin) (before after : BookState) (op : BookOp) (outcome : BookOutcome)
    → IsEntered origin before after op outcome → MayBecome origin op outcome
may_become origin before after op (done receipt) entered = entered.runs.0.operation
may_become origin before after op (refused fault) entered =
    elim (refusal_cases (refusal_of origin (length before.records) op) fault entered.runs.0) [
      | inl memory ↦ inl memory
      | inr reason ↦ inr (length before.records, reason)
    ]

-- A recorded operation has its outcome, and turns the private book.
pub known_recorded : (origin : Origin) (told now_told : Option BookState) (op : BookOp) (outcome : BookOutcome)
    → Records origin told now_told op outcome → Becomes origin (Some op) outcome × TellsOp origin told now_told (Some op) outcome
known_recorded origin told now_told op outcome records = (
  may_become origin records.before records.after op outcome records.entered,
  record {
    each = λ book is. let known = records.tells.each book is in
        record { after = records.after; tells = known.1; holds = rw known.0 records.entered };
  },
)

-- Where there is no operation, the book stays.
pub known_none : (origin : Origin) (told : Option BookState)
    → Becomes origin None (refused Memory) × TellsOp origin told told None (refused Memory)
known_none origin told = (refl, record { each = λ book is. record { after = book; tells = is; holds = (refl, refl) } })

-- The job and its outcome are appended.
pub keeps_one : (origin : Origin) (op : Option BookOp) (job : ℕ) (taken reserved now_taken : List ℕ)
    (outcomes room now_outcomes : List Outcome) (outcome : Outcome)
    (told now_told : Option BookState) → reserved ≡ taken → now_taken ≡ reserved ++ job ∷ [] → room ≡ outcomes
    → now_outcomes ≡ room ++ outcome ∷ []
    → Becomes origin op (book_outcome_of outcome) × TellsOp origin told now_told op (book_outcome_of outcome)
    → KeepsOne origin op job taken now_taken (map book_outcome_of outcomes) (map book_outcome_of now_outcomes) told now_told
keeps_one origin op job taken reserved now_taken outcomes room now_outcomes outcome told now_told same grown alike longer known = record {
  outcome = book_outcome_of outcome;
  takes = cc;
  keeps = cc (map_push book_outcome_of outcomes outcome);
  becomes = known.0;
  tells = known.1;
}

-- ---- one job

-- What a turn of the private book gives, from what is known of it.
turned : (told now_told : Option BookState) (Holds Gives : BookState → BookState → Type 0) → TurnsPrivateBook told now_told Holds
    → ((before after : BookState) → Holds before after → Gives before after) → TurnsPrivateBook told now_told Gives
turned told now_told Holds Gives turns gives = record {
  each = λ book is. let one = turns.each book is in
      record { after = one.after; tells = one.tells; holds = gives book one.after one.holds };
}

module _ (origin : Origin) (count : ℕ) (Makes : ℕ → BookOp → Type 0) (job : ℕ) (taken now_taken : List ℕ)
    (outcomes now_outcomes : List BookOutcome) (told now_told : Option BookState) (within : job < count) where
  -- A job with an operation.
  pub takes_made : (op : BookOp) → Makes job op → KeepsOne origin (Some op) job taken now_taken outcomes now_outcomes told now_told
      → TakesOne origin count Makes job taken now_taken outcomes now_outcomes told now_told
  takes_made op has keeps = record {
    outcome = keeps.outcome;
    takes = keeps.takes;
    keeps = keeps.keeps;
    of_job = record { within = within; becomes = inr (op, has, keeps.becomes) };
    tells = turned told now_told _ _ keeps.tells
        (λ before after left. record { records = left.runs.1; is_done = inr (op, has, left.runs.0) });
  }

  -- A job without an operation.
  pub takes_none : KeepsOne origin None job taken now_taken outcomes now_outcomes told now_told
      → TakesOne origin count Makes job taken now_taken outcomes now_outcomes told now_told
  takes_none keeps = record {
    outcome = keeps.outcome;
    takes = keeps.takes;
    keeps = keeps.keeps;
    of_job = record { within = within; becomes = inl keeps.becomes };
    tells = turned told now_told _ _ keeps.tells (λ before after left. record { records = rw (left.0, left.1); is_done = inl left.0 });
  }

pub op_of_job : (alg : Alg) (jobs : List Job) (number : ℕ) (job : Job) → number < length jobs → job ≡ get_or jobs number job
    → slice_get (operations_of alg jobs) number ≡ Some (operation_of alg job)
op_of_job alg jobs number job within is =
    slice_get-map (operation_of alg) jobs number ∙ ap (option_map (operation_of alg))
    (slice_get_read jobs (length jobs) number job refl within is)

-- ---- jobs without an operation

module _ (count : ℕ) (Makes : ℕ → BookOp → Type 0) (Fails : ℕ → JobFault → Type 0) (job : ℕ) (taken now_taken : List ℕ)
    (takes : now_taken ≡ taken ++ job ∷ []) where
  -- An unmade job among these is one among these and one more.
  taken_unmade : (unmade : Option Unmade) → IfSome unmade (IsTakenUnmade count Fails taken) → IfSome unmade (IsTakenUnmade count Fails now_taken)
  taken_unmade None right = tt
  taken_unmade (Some unmade) right = rw takes (record {
    index = right.index;
    stands = at_longer taken job right.index unmade.job right.stands;
    within = right.within;
    reason = right.reason;
  })

  -- After a job with an operation, the first unmade job is as before.
  pub unmade_kept : (op : BookOp) (old new : Option Unmade) → Makes job op → new ≡ old
      → IsUnmadeAfter count Makes Fails job taken now_taken old new
  unmade_kept op old new has same = record {
    had = λ _. inl (op, has);
    before = λ earlier had. rw same had;
    right = λ right. rw same (taken_unmade old right);
  }

  -- After a job without one, it is the one before, if there was one, else this job's.
  pub unmade_noted : (fault : JobFault) (old new : Option Unmade) → job < count → Fails job fault → IsNoted job fault old new
      → IsUnmadeAfter count Makes Fails job taken now_taken old new
  unmade_noted fault None new within reason noted = record {
    had = λ _. inr (rw noted (le_refl job));
    before = λ earlier had. elim had [ inl made ↦ inl made | inr never ↦ absurd never ];
    right = λ _. rw noted (record { index = length taken; stands = rw takes (at_last taken job); within = within; reason = reason });
  }
  unmade_noted fault (Some unmade) new within reason noted = record {
    had = λ before. inr (rw noted before);
    before = λ earlier had. rw noted had;
    right = λ right. rw noted (taken_unmade (Some unmade) right);
  }

-- A worker that goes on after a reason of memory alone turns as it should after a job without an operation.
pub turn_after : (Makes : ℕ → BookOp → Type 0) (Fails : ℕ → JobFault → Type 0) (job : ℕ) (fault : JobFault) (turn : Turn)
    → Fails job fault → (turn ≡ Next → fault ≡ reasons.Memory) → (turn ≡ Last → fault ≢ reasons.Memory) → IsTurnAfter Makes Fails job turn
turn_after Makes Fails job fault Next reason next last = inr (rw (next refl) at reason)
turn_after Makes Fails job fault Last reason next last = record { fault = fault; reason = reason; other = last refl }

-- After one more job whose operation was made unless memory ran out, all are such.
pub made_more : (Makes : ℕ → BookOp → Type 0) (Fails : ℕ → JobFault → Type 0) (taken now_taken : List ℕ) (job : ℕ)
    → AreMadeUnlessMemory Makes Fails taken → now_taken ≡ taken ++ job ∷ [] → IsMadeUnlessMemory Makes Fails job → AreMadeUnlessMemory Makes Fails now_taken
made_more Makes Fails taken now_taken job are is one = rw is (record {
  each = λ index other has. elim (slice_get_snoc taken job other index has) [
    | inl old ↦ are.each index other old
    | inr new ↦ rw new.1 one
  ];
})

-- ---- all jobs of a worker

pub below_at : (taken : List ℕ) (index number job : ℕ) → All (λ drawn. drawn < job) taken → slice_get taken index ≡ Some number → number < job
below_at taken index number job all has =
    rw (get_or_from_slice_get taken index number 0 has) at (all index 0 (slice_get_within taken index number has))

pub rise_more : (taken now_taken : List ℕ) (job : ℕ) → NumbersRise taken → All (λ drawn. drawn < job) taken → now_taken ≡ taken ++ job ∷ []
    → NumbersRise now_taken
rise_more taken now_taken job rise above is = rw is (record {
  each = λ first second earlier later order has also. elim (slice_get_snoc taken job earlier first has) [
    | inl old ↦ elim (slice_get_snoc taken job later second also) [
      | inl older ↦ rise.each first second earlier later order old older
      | inr new ↦ let below = below_at taken first earlier job above old in omega (arith, new.1)
    ]
    | inr new ↦ elim (slice_get_snoc taken job later second also) [
      | inl older ↦ let within = slice_get_within taken second later older in absurd (omega (arith, new.0))
      | inr newer ↦ absurd (omega (arith, new.0, newer.0))
    ]
  ];
})

-- Each number of a list that rises is at least its index.
at_least_index : (taken : List ℕ) (index number : ℕ) → NumbersRise taken → slice_get taken index ≡ Some number → index ≤ number
at_least_index taken zero number rise has = omega arith
at_least_index taken (suc index) number rise has =
    let within = slice_get_within taken (suc index) number has in
    let before = within_at taken index (omega arith) in
    let known = at_least_index taken index before.0 rise before.1 in
    let less = rise.each index (suc index) before.0 number (omega arith) before.1 has in
    omega arith

count_of : (taken : List ℕ) (count job : ℕ) → count ≡ length taken → NumbersRise taken → All (λ drawn. drawn < job) taken → count ≤ job
count_of taken zero job is rise above = omega arith
count_of taken (suc index) job is rise above =
    let last = within_at taken index (omega arith) in
    let known = at_least_index taken index last.0 rise last.1 in
    let below = below_at taken index last.0 job above last.1 in
    omega arith

-- A job above all that were taken leaves fewer to take.
pub turn_smaller : (taken now_taken : List ℕ) (count job : ℕ) → NumbersRise taken → All (λ drawn. drawn < job) taken → job < count
    → now_taken ≡ taken ++ job ∷ [] → count - length now_taken < count - length taken
turn_smaller taken now_taken count job rise above below is =
    let longer : length now_taken ≡ length taken + 1 = ap length is ∙ length_snoc taken job in
    let few = count_of taken (length taken) job refl rise above in
    omega arith

-- One more job is taken, and each job taken still has an operation, or is not before the first unmade job.
pub had_more : (Makes : ℕ → BookOp → Type 0) (taken now_taken : List ℕ) (job : ℕ) (old new : Option Unmade) → AreHad Makes taken old
    → now_taken ≡ taken ++ job ∷ [] → IsHad Makes new job → ((earlier : ℕ) → IsHad Makes old earlier → IsHad Makes new earlier)
    → AreHad Makes now_taken new
had_more Makes taken now_taken job old new had takes here before = rw takes (record {
  each = λ index other took. elim (slice_get_snoc taken job other index took) [
    | inl older ↦ before other (had.each index other older)
    | inr last ↦ rw last.1 here
  ];
})

done_more : (origin : Origin) (Makes : ℕ → BookOp → Type 0) (old middle : List BookRecord) (taken : List ℕ) (outcomes : List BookOutcome)
    (job : ℕ) (outcome : BookOutcome)
    → AreDoneInOrder origin Makes old taken outcomes middle → IsDoneAfter origin Makes middle job outcome
    → AreDoneInOrder origin Makes old (taken ++ job ∷ []) (outcomes ++ outcome ∷ []) (records_after middle outcome)
done_more origin Makes old middle [] [] job outcome first last = (rw first at last, rw first)
done_more origin Makes old middle [] (other ∷ outcomes) job outcome first last = absurd first
done_more origin Makes old middle (one ∷ taken) [] job outcome first last = absurd first
done_more origin Makes old middle (one ∷ taken) (other ∷ outcomes) job outcome first last =
    (first.0, done_more origin Makes (records_after old other) middle taken outcomes job outcome first.1 last)

-- A worker that stops, but not for a book of another origin, leaves the book as its jobs left it.
pub tells_end : (origin : Origin) (Makes : ℕ → BookOp → Type 0) (told middle now_told : Option BookState) (taken : List ℕ)
    (outcomes : List BookOutcome) (end : End) → end ≢ ends.ForeignBook → now_told ≡ middle
    → TellsAll origin Makes told middle taken outcomes NoneLeft → TellsAll origin Makes told now_told taken outcomes end
tells_end origin Makes told middle now_told taken outcomes end other same all = rw same (turned told middle _ _ all
    (λ before after left. record { are_done = left.are_done; foreign = λ foreign. absurd (other foreign) }))

pub tells_stop : (origin : Origin) (Makes : ℕ → BookOp → Type 0) (told middle now_told : Option BookState) (taken : List ℕ)
    (outcomes : List BookOutcome) (end : End)
    → TellsAll origin Makes told middle taken outcomes NoneLeft → StopsFor origin middle now_told end
    → TellsAll origin Makes told now_told taken outcomes end
tells_stop origin Makes told middle now_told taken outcomes NoneLeft all stops = absurd stops
tells_stop origin Makes told middle now_told taken outcomes NoOperation all stops = absurd stops
tells_stop origin Makes told middle now_told taken outcomes OutOfMemory all stops =
    tells_end origin Makes told middle now_told taken outcomes OutOfMemory (λ is. cc) stops all
tells_stop origin Makes told middle now_told taken outcomes ends.ForeignBook all stops = record {
  each = λ book is.
      let first = all.each book is in
      let known = stops.tells.each first.after first.tells in
      record {
        after = first.after;
        tells = known.1 ∙ ap (λ (b : BookState). Some b) (sym known.0);
        holds = record { are_done = first.holds.are_done; foreign = λ _. rw known.0 stops.other };
      };
}

-- If all jobs taken are below a number, so is their first unmade job.
pub unmade_below : (count : ℕ) (Fails : ℕ → JobFault → Type 0) (taken : List ℕ) (job : ℕ) (unmade : Option Unmade)
    → All (λ drawn. drawn < job) taken → IfSome unmade (IsTakenUnmade count Fails taken) → IfSome unmade (λ first. first.job ≤ job)
unmade_below count Fails taken job None above right = tt
unmade_below count Fails taken job (Some unmade) above right =
    let below = below_at taken right.index unmade.job job above right.stands in omega arith

-- ---- one turn of a worker's loop

module _ (job : ℕ) (origin : Origin) (count : ℕ) (Makes : ℕ → BookOp → Type 0) (taken now_taken : List ℕ)
    (outcomes now_outcomes : List BookOutcome) (told now_told : Option BookState)
    (one : TakesOne origin count Makes job taken now_taken outcomes now_outcomes told now_told) where
  pub turn_worked : IsWorked origin count Makes taken outcomes → IsWorked origin count Makes now_taken now_outcomes
  turn_worked worked = let pairs = worked.pairs in rw (one.takes, one.keeps) (record {
    pairs = omega (arith, length_snoc outcomes one.outcome, length_snoc taken job);
    each = λ index other result took has. elim (slice_get_snoc taken job other index took) [
      | inl old ↦ elim (slice_get_snoc outcomes one.outcome result index has) [
        | inl known ↦ worked.each index other result old known
        | inr new ↦ let within = slice_get_within taken index other old in absurd (omega (arith, new.0))
      ]
      | inr new ↦ elim (slice_get_snoc outcomes one.outcome result index has) [
        | inl known ↦ let within = slice_get_within outcomes index result known in absurd (omega (arith, new.0))
        | inr last ↦ rw (new.1, last.1) one.of_job
      ]
    ];
  })

  pub turn_tells : (first : Option BookState) → TellsAll origin Makes first told taken outcomes NoneLeft
      → TellsAll origin Makes first now_told now_taken now_outcomes NoneLeft
  turn_tells first all = rw (one.takes, one.keeps) (record {
    each = λ book is.
        let before = all.each book is in
        let last = one.tells.each before.after before.tells in
        record {
          after = last.after;
          tells = last.tells;
          holds = record {
            are_done = rw last.holds.records (done_more origin Makes book.records before.after.records taken outcomes job one.outcome
                before.holds.are_done last.holds.is_done);
            foreign = λ never. absurd cc;
          };
        };
  })
