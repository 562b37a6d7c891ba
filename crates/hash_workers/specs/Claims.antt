-- What contracts see of claims and of their seats (this project's choice).
use Rattle.std.specs.Prelude.{◌≡◌, ℕ, ◌+◌, ◌<◌, ◌≤◌, ◌==◌, if◌then◌else◌, Bool, List, [], ◌∷◌, ◌++◌, All}
use Rattle.atomic_table.specs.Seated.{TableId}

-- How many jobs and seats there are, and which word counts the draws.
pub record ClaimsState : Type 0 where
  pub jobs : ℕ
  pub seats : ℕ
  pub word : TableId

-- The claims that the seat is of, its places, what it drew, in order, and whether it found no number left.
pub record SeatState : Type 0 where
  pub claims : ClaimsState
  pub places : ℕ
  pub draws : List ℕ
  pub ended : Bool

-- The seat is of these claims, has these places and draws, and is ended or not.
abbrev pub IsSeat : ClaimsState → ℕ → List ℕ → Bool → SeatState → Type 0
IsSeat claims places draws ended seat =
    (seat.claims ≡ claims) × (seat.places ≡ places) × (seat.draws ≡ draws) × (seat.ended ≡ ended)

-- How often the number occurs in the list.
abbrev pub times : ℕ → List ℕ → ℕ
times number [] = 0
times number (other ∷ others) = (if number == other then 1 else 0) + times number others

-- Each number below the count occurs once in the list, and no other number does.
pub record HandsOutEach (count : ℕ) (draws : List ℕ) : Type 0 where
  pub once : (number : ℕ) → number < count → times number draws ≡ 1
  pub others : (number : ℕ) → count ≤ number → times number draws ≡ 0

-- A seat drew `draws` and then more: numbers below the number of jobs and above all that it drew before.
pub record DrawsMore (jobs : ℕ) (draws now_draws : List ℕ) : Type 0 where
  pub rest : List ℕ
  pub draws_are : now_draws ≡ draws ++ rest
  pub below : All (λ number. number < jobs) rest
  pub beyond : All (λ number. All (λ drawn. drawn < number) draws) rest
