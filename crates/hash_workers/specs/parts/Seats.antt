-- The workers' seats, and what each worker hands back.
use Rattle.std.specs.Prelude.{◌≡◌, ◌≢◌, ℕ, ◌<◌, ◌≤◌, ◌⊎◌, ◌||◌, Bool, true, false, List, [], ◌∷◌, length, map, slice_get, Option, None, Some, IfSome}
use Rattle.std.specs.List.{concat}
use Rattle.measure_book.specs.declared.origin.Origin.{Origin}
use Rattle.measure_book.specs.declared.op.Outcome.{Outcome}
use Rattle.measure_book.specs.Names.{BookOp, book_outcome_of}
use Rattle.hash_workers.specs.declared.fault.JobFault.{JobFault}
use Rattle.hash_workers.specs.declared.work.End.{End}
use Rattle.hash_workers.specs.declared.work.End.TheVariants.{NoneLeft, NoOperation}
use Rattle.hash_workers.specs.declared.work.Unmade.{Unmade}
use Rattle.hash_workers.specs.declared.work.Work.{Work}
use Rattle.hash_workers.specs.Claims.{ClaimsState, SeatState, IsSeat}
use Rattle.hash_workers.specs.parts.Taking.{NumbersRise}
use Rattle.hash_workers.specs.parts.Working.{IsWorked}
use Rattle.hash_workers.specs.parts.Ending.{AnyReason, AreHad, AreMadeUnlessMemory, DrewBeyond, IsEnd, IsFrom, IsTakenUnmade}

-- ---- seats

-- A worker's seat before its first draw: one place of these claims.
abbrev pub IsNewSeat : ClaimsState → SeatState → Type 0
IsNewSeat claims seat = IsSeat claims 1 [] false seat

-- The seat has one place of these claims, whatever it drew.
abbrev pub IsSinglePlace : ClaimsState → SeatState → Type 0
IsSinglePlace claims seat = (seat.claims ≡ claims) × (seat.places ≡ 1)

abbrev pub draws_of : SeatState → List ℕ
draws_of seat = seat.draws

-- Whether one of the seats is ended.
abbrev pub some_ended : List SeatState → Bool
some_ended [] = false
some_ended (seat ∷ seats) = seat.ended || some_ended seats

-- ---- seats that are joined in turn, none at first

abbrev pub places_in : Option SeatState → ℕ
places_in None = 0
places_in (Some seat) = seat.places

abbrev pub draws_in : Option SeatState → List ℕ
draws_in None = []
draws_in (Some seat) = seat.draws

abbrev pub ended_in : Option SeatState → Bool
ended_in None = false
ended_in (Some seat) = seat.ended

-- These seats, of one place each, are joined to this one.
pub record AreJoined (claims : ClaimsState) (seats : List SeatState) (all : Option SeatState) : Type 0 where
  pub claims_are : IfSome all (λ seat. seat.claims ≡ claims)
  pub places : places_in all ≡ length seats
  pub draws : draws_in all ≡ concat (map draws_of seats)
  pub ended : ended_in all ≡ some_ended seats

-- ---- what workers hand back

-- What a worker did: its jobs rise; each has one outcome; each before the first unmade job has an operation, and so has each, unless
-- memory ran out for it or the worker stopped for one; its seat is still one of these claims; and this is why it took no more.
pub record IsWorkOf (origin : Origin) (Makes : ℕ → BookOp → Type 0) (Fails : ℕ → JobFault → Type 0) (claims : ClaimsState) (work : Work) :
    Type 0 where
  pub rises : NumbersRise work.taken.items
  pub worked : IsWorked origin claims.jobs Makes work.taken.items (map book_outcome_of work.outcomes.items)
  pub had : AreHad Makes work.taken.items work.unmade
  pub unmade : IfSome work.unmade (IsTakenUnmade claims.jobs Fails work.taken.items)
  pub made : work.end ≢ NoOperation → AreMadeUnlessMemory Makes Fails work.taken.items
  pub seat : IsSinglePlace claims work.seat
  pub ends : IsEnd origin work.seat work.taken.items work.unmade work.end

-- There is one worker for each place of the claims, and each did its work.
pub record AreWorksOf (origin : Origin) (Makes : ℕ → BookOp → Type 0) (Fails : ℕ → JobFault → Type 0) (claims : ClaimsState)
    (works : List Work) : Type 0 where
  pub one_each : length works ≡ claims.seats
  pub each : (worker : ℕ) (work : Work) → slice_get works worker ≡ Some work → IsWorkOf origin Makes Fails claims work

-- How a worker's seat ended. `NoneLeft`: it drew what the worker took. `NoOperation`: there is a first unmade job, and it drew what
-- the worker took and then numbers above these, if any.
abbrev pub IsSeatEnd : Work → End → Type 0
IsSeatEnd work NoneLeft = (work.seat.ended ≡ true) × (work.seat.draws ≡ work.taken.items)
IsSeatEnd work NoOperation = (work.seat.ended ≡ true) × DrewBeyond work.seat.draws work.taken.items × (work.unmade ≢ None)
IsSeatEnd work end = Unit {0}

-- There is one worker for each place of the claims; each hands its seat back, ended as its work ended, and its first unmade job is a
-- job that it took.
pub record HandBack (claims : ClaimsState) (works : List Work) : Type 0 where
  pub one_each : length works ≡ claims.seats
  pub seat : (worker : ℕ) (work : Work) → slice_get works worker ≡ Some work → IsSinglePlace claims work.seat
  pub ended : (worker : ℕ) (work : Work) → slice_get works worker ≡ Some work → IsSeatEnd work work.end
  pub unmade : (worker : ℕ) (work : Work) (unmade : Unmade) → slice_get works worker ≡ Some work → work.unmade ≡ Some unmade
      → IsTakenUnmade claims.jobs AnyReason work.taken.items unmade

-- Some worker has this first unmade job.
pub record HasUnmade (works : List Work) (unmade : Unmade) : Type 0 where
  pub worker : ℕ
  pub work : Work
  pub stands : slice_get works worker ≡ Some work
  pub has : work.unmade ≡ Some unmade

-- `least` is a first unmade job of some worker, and none of the first `count` workers has an earlier one.
pub record IsLeastUnmade (works : List Work) (count : ℕ) (least : Option Unmade) : Type 0 where
  pub some : IfSome least (HasUnmade works)
  pub none_before : (worker : ℕ) (work : Work) (unmade : Unmade) → worker < count → slice_get works worker ≡ Some work
      → work.unmade ≡ Some unmade → IsFrom least unmade.job

-- Each worker that stopped for a job without an operation has a first unmade job.
abbrev pub HaveUnmade : List Work → Type 0
HaveUnmade works = (worker : ℕ) (work : Work) → slice_get works worker ≡ Some work → work.end ≡ NoOperation → work.unmade ≢ None

-- This is the earlier of two unmade jobs; none if there is none.
abbrev pub IsEarlier : Option Unmade → Option Unmade → Option Unmade → Type 0
IsEarlier None other first = first ≡ other
IsEarlier (Some one) None first = first ≡ Some one
IsEarlier (Some one) (Some other) first =
    ((first ≡ Some one) × (one.job ≤ other.job)) ⊎ ((first ≡ Some other) × (other.job ≤ one.job))

-- Some worker ended for this reason.
pub record HasEnd (works : List Work) (end : End) : Type 0 where
  pub worker : ℕ
  pub work : Work
  pub stands : slice_get works worker ≡ Some work
  pub ends : work.end ≡ end

-- None of the first `count` workers ended for this reason.
pub record HasNoEnd (works : List Work) (end : End) (count : ℕ) : Type 0 where
  pub each : (worker : ℕ) (work : Work) → worker < count → slice_get works worker ≡ Some work → work.end ≢ end

-- ---- of the code's values

abbrev pub taken_of : Work → List ℕ
taken_of work = work.taken.items

abbrev pub outcomes_of : Work → List Outcome
outcomes_of work = work.outcomes.items

abbrev pub seat_of : Work → SeatState
seat_of work = work.seat
