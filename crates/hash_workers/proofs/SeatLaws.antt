-- What workers that drew from claims hand back.
use Rattle.std.proofs.Common.{◌≡◌, ◌≢◌, ℕ, suc, ◌<◌, ◌⊎◌, ◌||◌, true, List, [], ◌∷◌, ◌++◌, length, map, Option, None, Some, refl, sym, ap, ◌∙◌, subst, inl, inr, arith}
use Rattle.std.specs.Prelude.{slice_get, IfSome}
use Rattle.std.specs.List.{All, concat}
use Rattle.std.proofs.lemmas.List.{append-nil, append_assoc, length-map, map_push}
use Rattle.std.proofs.lemmas.Option.{none-some, same_Some, slice_get_within, get_or_from_slice_get}
use Rattle.measure_book.specs.declared.origin.Origin.{Origin}
use Rattle.measure_book.specs.declared.op.Outcome.{Outcome}
use Rattle.measure_book.specs.Names.{BookOp, book_outcome_of}
use Rattle.hash_workers.specs.declared.work.End.{End}
use Rattle.hash_workers.specs.declared.fault.JobFault.{JobFault}
use Rattle.hash_workers.specs.declared.work.End.TheVariants.{NoneLeft, OutOfMemory, ForeignBook, NoOperation}
use Rattle.hash_workers.specs.declared.work.Unmade.{Unmade}
use Rattle.hash_workers.specs.declared.work.Work.{Work}
use Rattle.hash_workers.specs.Names.{AnyReason, ArePairs, AreTakenBefore, AreWorksOf, ClaimsState, HandBack, HandsOutEach, HasNoEnd, HaveUnmade, IsEnd, IsLeastUnmade, IsSeatEnd, IsSinglePlace, IsTakenUnmade, IsUnmadeOf, NumbersRiseForEach, SeatState, outcomes_of, seat_of, some_ended, taken_of}
use Rattle.hash_workers.specs.parts.Seats.{draws_of}
use Rattle.hash_workers.proofs.ListLaws.{at_list, at_map, in_either, in_mapped, map_at, within_at}
use Rattle.hash_workers.proofs.EndLaws.{some_unmade}
use Rattle.hash_workers.proofs.TakingLaws.{drawn_by}
use Rattle.hash_workers.proofs.WorkLaws.{below_at}

-- ---- seats that are joined

concat_snoc : (lists : List (List ℕ)) (one : List ℕ) → concat (lists ++ one ∷ []) ≡ concat lists ++ one
concat_snoc [] one = append-nil one
concat_snoc (list ∷ lists) one = ap (λ rest. list ++ rest) (concat_snoc lists one) ∙ sym (append_assoc list (concat lists) one)

pub draws_snoc : (seats : List SeatState) (seat : SeatState)
    → concat (map draws_of (seats ++ seat ∷ [])) ≡ concat (map draws_of seats) ++ seat.draws
draws_snoc seats seat = ap concat (map_push draws_of seats seat) ∙ concat_snoc (map draws_of seats) seat.draws

pub ended_snoc : (seats : List SeatState) (seat : SeatState) → some_ended (seats ++ seat ∷ []) ≡ (some_ended seats || seat.ended)
ended_snoc [] seat = grind arith
ended_snoc (one ∷ seats) seat = let rest = ended_snoc seats seat in grind arith

-- ---- what each worker hands back

seat_end : (origin : Origin) (work : Work) (end : End) → IsEnd origin work.seat work.taken.items work.unmade end → IsSeatEnd work end
seat_end origin work NoneLeft ends = ends
seat_end origin work NoOperation ends = ends
seat_end origin work end ends = tt

pub hand_back : (origin : Origin) (Makes : ℕ → BookOp → Type 0) (Fails : ℕ → JobFault → Type 0) (claims : ClaimsState) (works : List Work)
    → AreWorksOf origin Makes Fails claims works → HandBack claims works
hand_back origin Makes Fails claims works are = record {
  one_each = are.one_each;
  seat = λ worker work here. (are.each worker work here).seat;
  ended = λ worker work here. seat_end origin work work.end (are.each worker work here).ends;
  unmade = λ worker work unmade here has. let right = rw has at (are.each worker work here).unmade in
      record { index = right.index; stands = right.stands; within = right.within; reason = tt };
}

pub have_unmade : (claims : ClaimsState) (works : List Work) → HandBack claims works → HaveUnmade works
have_unmade claims works back worker work stands is = (rw is at (back.ended worker work stands)).2

all_seats : (works : List Work) (P : SeatState → Type 0)
    → ((worker : ℕ) (work : Work) → slice_get works worker ≡ Some work → P work.seat) → All P (map seat_of works)
all_seats works P each = λ worker seat within.
    let at = within_at (map seat_of works) worker within in
    let from = map_at seat_of works worker at.0 at.1 in
    let same = get_or_from_slice_get (map seat_of works) worker at.0 seat at.1 in
    subst P (from.2 ∙ sym same) (each worker from.0 from.1)

pub all_single : (claims : ClaimsState) (works : List Work) → HandBack claims works → All (IsSinglePlace claims) (map seat_of works)
all_single claims works back = all_seats works (IsSinglePlace claims) back.seat

drawn_is_taken : (works : List Work)
    → ((worker : ℕ) (work : Work) → slice_get works worker ≡ Some work → work.seat.draws ≡ work.taken.items)
    → map draws_of (map seat_of works) ≡ map taken_of works
drawn_is_taken [] each = refl
drawn_is_taken (work ∷ works) each = rw (each 0 work refl, drawn_is_taken works (λ worker other here. each (suc worker) other here))

-- A worker that did not run out of memory or find another book ended its seat, which drew what the worker took and then perhaps
-- numbers above these.
ended_seat : (work : Work) (end : End) → end ≢ OutOfMemory → end ≢ ForeignBook → IsSeatEnd work end
    → (work.seat.ended ≡ true) × (end ≢ NoOperation → work.seat.draws ≡ work.taken.items)
ended_seat work NoneLeft memory foreign ends = (ends.0, λ _. ends.1)
ended_seat work NoOperation memory foreign ends = (ends.0, λ made. absurd (made refl))
ended_seat work OutOfMemory memory foreign ends = absurd (memory refl)
ended_seat work ForeignBook memory foreign ends = absurd (foreign refl)

above_all : (rest taken : List ℕ) (index number : ℕ) → All (λ number. All (λ drawn. drawn < number) taken) rest
    → slice_get rest index ≡ Some number → All (λ drawn. drawn < number) taken
above_all rest taken index number beyond has =
    rw (get_or_from_slice_get rest index number 0 has) at (beyond index 0 (slice_get_within rest index number has))

-- Each number that a worker's seat drew is a job that the worker took, or above its first unmade job.
took_or_passed : (jobs : ℕ) (work : Work) (end : End) (index job : ℕ) → end ≢ OutOfMemory → end ≢ ForeignBook → IsSeatEnd work end
    → ((unmade : Unmade) → work.unmade ≡ Some unmade → IsTakenUnmade jobs AnyReason work.taken.items unmade)
    → slice_get work.seat.draws index ≡ Some job
    → ((at : ℕ) × (slice_get work.taken.items at ≡ Some job)) ⊎ ((unmade : Unmade) × (work.unmade ≡ Some unmade) × (unmade.job < job))
took_or_passed jobs work NoneLeft index job memory foreign ends known drew = inl (index, rw ends.1 at drew)
took_or_passed jobs work NoOperation index job memory foreign ends known drew =
    let beyond = ends.1 in
    elim (in_either work.taken.items beyond.rest index job (rw beyond.draws_are at drew)) [
      | inl took ↦ inl (index, took)
      | inr past ↦
          let first = some_unmade work.unmade ends.2 in
          let unmade = known first.0 first.1 in
          let above = above_all beyond.rest work.taken.items past.0 job beyond.beyond past.1 in
          let below = below_at work.taken.items unmade.index first.0.job job above unmade.stands in
          inr (first.0, first.1, below)
    ]
took_or_passed jobs work OutOfMemory index job memory foreign ends known drew = absurd (memory refl)
took_or_passed jobs work ForeignBook index job memory foreign ends known drew = absurd (foreign refl)

-- If no worker ran out of memory or found another book, all numbers were drawn.
module _ (claims : ClaimsState) (works : List Work) (back : HandBack claims works)
    (not_memory : HasNoEnd works OutOfMemory (length works)) (not_foreign : HasNoEnd works ForeignBook (length works))
    (closed : All (λ seat. seat.ended ≡ true) (map seat_of works) → HandsOutEach claims.jobs (concat (map draws_of (map seat_of works)))) where
  how_ended : (worker : ℕ) (work : Work) → slice_get works worker ≡ Some work
      → (work.seat.ended ≡ true) × (work.end ≢ NoOperation → work.seat.draws ≡ work.taken.items)
  how_ended worker work is =
      let within = slice_get_within works worker work is in
      ended_seat work work.end (not_memory.each worker work within is) (not_foreign.each worker work within is)
      (back.ended worker work is)

  drawn_each : HandsOutEach claims.jobs (concat (map draws_of (map seat_of works)))
  drawn_each = closed (all_seats works (λ seat. seat.ended ≡ true) (λ worker work is. (how_ended worker work is).0))

  -- If no worker stopped for a job without an operation, each job was taken once.
  pub taken_each : HasNoEnd works NoOperation (length works) → HandsOutEach claims.jobs (concat (map taken_of works))
  taken_each not_stopped =
      let drawn = drawn_is_taken works (λ worker work is.
      (how_ended worker work is).1 (not_stopped.each worker work (slice_get_within works worker work is) is)) in
      rw drawn at drawn_each

  -- Each job before the first unmade job was taken.
  taken_before : (first : Unmade) → IsLeastUnmade works (length works) (Some first) → AreTakenBefore (map taken_of works) first
  taken_before first least job before =
      let has = least.some in
      let unmade = back.unmade has.worker has.work first has.stands has.has in
      let within = unmade.within in
      let below : job < claims.jobs = omega arith in
      let once = drawn_each.once job below in
      let drawn = drawn_by (map draws_of (map seat_of works)) job (omega arith) in
      let seat = in_mapped draws_of (map seat_of works) drawn.worker drawn.index job drawn.took in
      let work = map_at seat_of works drawn.worker seat.0 seat.1 in
      let inside = slice_get_within works drawn.worker work.0 work.1 in
      let drew : slice_get work.0.seat.draws drawn.index ≡ Some job = rw work.2 seat.2 in
      elim (took_or_passed claims.jobs work.0 work.0.end drawn.index job (not_memory.each drawn.worker work.0 inside work.1)
      (not_foreign.each drawn.worker work.0 inside work.1) (back.ended drawn.worker work.0 work.1)
      (λ other is. back.unmade drawn.worker work.0 other work.1 is) drew) [
        | inl took ↦
            let taken = at_map taken_of works drawn.worker work.0 work.1 in
            record {
              worker = drawn.worker;
              index = took.0;
              took = at_list (map taken_of works) drawn.worker took.0 work.0.taken.items job taken took.1;
            }
        | inr passed ↦
            let earlier = least.none_before drawn.worker work.0 passed.0 inside work.1 passed.1 in
            let less = passed.2 in
            absurd (omega arith)
      ]

  pub taken_before_unmade : (unmade : Option Unmade) → IsUnmadeOf works unmade → IfSome unmade (AreTakenBefore (map taken_of works))
  taken_before_unmade None of = tt
  taken_before_unmade (Some first) of = taken_before first (of.some (λ none. none-some first (sym none)))

-- ---- what the workers took

module _ (origin : Origin) (Makes : ℕ → BookOp → Type 0) (Fails : ℕ → JobFault → Type 0) (claims : ClaimsState) (works : List Work)
    (are : AreWorksOf origin Makes Fails claims works) where
  pub rises_of : (takings : List (List ℕ)) → takings ≡ map taken_of works → NumbersRiseForEach takings
  rises_of takings is = rw is (record {
    each = λ worker first second earlier later order took also.
        let one = in_mapped taken_of works worker first earlier took in
        let other = in_mapped taken_of works worker second later also in
        let same : other.0 ≡ one.0 = same_Some other.0 one.0 (sym other.1 ∙ one.1) in
        (are.each worker one.0 one.1).rises.each first second earlier later order one.2 (rw same at other.2);
  })

  -- Each worker has as many outcomes as jobs.
  pub pairs_of : (takings : List (List ℕ)) (groups : List (List Outcome)) → takings ≡ map taken_of works → groups ≡ map outcomes_of works
      → ArePairs takings groups
  pairs_of takings groups takings_are groups_are = rw (takings_are, groups_are) (record {
    workers = length-map works outcomes_of ∙ sym (length-map works taken_of);
    each = λ worker taken group has_taken has_group.
        let one = map_at taken_of works worker taken has_taken in
        let other = map_at outcomes_of works worker group has_group in
        let same : one.0 ≡ other.0 = same_Some one.0 other.0 (sym one.1 ∙ other.1) in
        let pairs = (are.each worker one.0 one.1).worked.pairs in
        let mapped = length-map one.0.outcomes.items book_outcome_of in
        ap length (sym other.2 ∙ ap outcomes_of (sym same)) ∙ sym mapped ∙ pairs ∙ ap length one.2;
  })
