-- The claim rule: what holds of the word that counts the draws, and of all seats' views, between any two steps; and what each
-- step tells (this project's choice, over the words of `atomic_table`).
use Rattle.std.specs.Prelude.{◌≡◌, ℕ, ◌+◌, ◌-◌, ◌%◌, ◌^◌, ◌<◌, ◌≤◌, ◌⊎◌, max, min, ◌||◌, if◌then◌else◌, nat_lt, Bool, true, false, List, [], ◌∷◌, ◌++◌, length, map, slice_index}
use Rattle.std.specs.List.{concat, range_with_len}
use mathlib.Core.Option.{none, some}
use lib.ListN.{get_elem?}
use Rattle.atomic_table.specs.Table.{State, Me, Step, Allows, step}
use Rattle.hash_workers.specs.declared.claims.view.SeatView.{SeatView}
use Rattle.hash_workers.specs.declared.claims.view.Allotment.{Allotment}
use Rattle.hash_workers.specs.Claims.{HandsOutEach, times}

-- ---- views

abbrev pub view_of : ℕ → ℕ → ℕ → List ℕ → Bool → SeatView
view_of jobs seats places draws ended = record { jobs = jobs; seats = seats; places = places; draws = draws; ended = ended }

-- What a join leaves of the view of the seat that is merged into the other.
abbrev pub spent : SeatView
spent = view_of 0 0 0 [] false

abbrev pub draws_of : SeatView → List ℕ
draws_of view = view.draws

abbrev pub places_of : SeatView → ℕ
places_of view = view.places

-- The places of an ended view.
abbrev pub ended_places_of : SeatView → ℕ
ended_places_of view = if view.ended then view.places else 0

abbrev pub total : (SeatView → ℕ) → List SeatView → ℕ
total of [] = 0
total of (view ∷ views) = of view + total of views

-- ---- the rule

-- The view is spent; or it is of these claims, has a place, and is ended only if no number is left.
abbrev pub IsViewOf : ℕ → ℕ → ℕ → SeatView → Type 0
IsViewOf jobs seats word view =
    (view ≡ spent) ⊎ ((view.jobs ≡ jobs) × (view.seats ≡ seats) × (1 ≤ view.places) × (view.ended ≡ true → jobs ≤ word))

-- All views together have the places of the claims; what they drew is each number below both the word and the number of jobs,
-- once; and the word exceeds the number of jobs by at most the places of the ended views.
pub record AreClaimed (jobs seats word : ℕ) (views : List SeatView) : Type 0 where
  pub few : (jobs < 2 ^ 32) × (1 ≤ seats) × (seats ≤ 8)
  pub each : (seat : ℕ) (view : SeatView) → get_elem? views seat ≡ some view → IsViewOf jobs seats word view
  pub places : total places_of views ≡ seats
  pub drawn : HandsOutEach (min word jobs) (concat (map draws_of views))
  pub bound : word ≤ jobs + total ended_places_of views

abbrev pub KeepsRule : Allotment → State (Unit {0}) SeatView → Type 0
KeepsRule allotment state =
    (length state.words ≡ 1) × AreClaimed allotment.jobs allotment.seats (slice_index state.words 0) state.views

-- ---- the steps

-- The first seat: all places, no draws, not ended.
abbrev pub first_view : Allotment → SeatView
first_view allotment = view_of allotment.jobs allotment.seats allotment.seats [] false

-- A seat is split: the giver has one place less, and the new one has that place, no draws, and is ended as the giver is.
abbrev pub giver : SeatView → SeatView
giver view = view_of view.jobs view.seats (view.places - 1) view.draws view.ended

abbrev pub taker : SeatView → SeatView
taker view = view_of view.jobs view.seats 1 [] view.ended

-- Two seats are joined: places and draws of both, ended where either was.
abbrev pub merged : SeatView → SeatView → SeatView
merged view other =
    view_of view.jobs view.seats (view.places + other.places) (view.draws ++ other.draws) (view.ended || other.ended)

-- A seat draws and finds this number in the word: if it is below the number of jobs it is drawn, else the seat is ended.
abbrev pub drawn_view : SeatView → ℕ → SeatView
drawn_view view number =
    view_of view.jobs view.seats view.places (if nat_lt number view.jobs then view.draws ++ number ∷ [] else view.draws)
    (if nat_lt number view.jobs then view.ended else true)

abbrev Holder : Type 0
Holder = Me (Unit {0}) SeatView

-- What a draw tells: the new view, and that the number is above all that the seat drew before.
abbrev pub Draws : Step (Unit {0}) → Holder → ℕ → Holder → Type 0
Draws step before number after =
    (after.0 ≡ drawn_view before.0 number) × (after.1 ≡ before.1) × ((drawn : ℕ) → 1 ≤ times drawn before.0.draws → drawn < number)

-- A seat draws all that is left, and finds this number in the word: it draws the numbers from there on that are below the number
-- of jobs, and is ended.
abbrev pub emptied_view : SeatView → ℕ → SeatView
emptied_view view number =
    view_of view.jobs view.seats view.places (view.draws ++ range_with_len number (view.jobs - number)) true

-- What a draw of all that is left tells: the new view, and that the number is above all that the seat drew before.
abbrev pub DrawsAll : Step (Unit {0}) → Holder → ℕ → Holder → Type 0
DrawsAll step before number after =
    (after.0 ≡ emptied_view before.0 number) × (after.1 ≡ before.1) × ((drawn : ℕ) → 1 ≤ times drawn before.0.draws → drawn < number)

-- What a look tells: nothing changes, and the seat has no more places than there are.
abbrev pub Looks : Step (Unit {0}) → Holder → ℕ → Holder → Type 0
Looks step before number after = (after ≡ before) × (before.0.places ≤ before.0.seats)

-- The seat may draw all that is left: whatever the word is by then, raising it to the number of jobs, if it is below that, keeps
-- the rule and tells such a draw.
abbrev pub MayDrawAll : Allotment → ℕ → ℕ → Holder → Type 0
MayDrawAll allotment slots seat holder =
    Allows (KeepsRule allotment) slots seat holder 0 (λ word. max word allotment.jobs) (DrawsAll (step slots 0 allotment.jobs 0 none) holder)

-- The seat may draw: whatever the word is by then, one more keeps the rule and tells a draw.
abbrev pub MayDraw : Allotment → ℕ → ℕ → Holder → Type 0
MayDraw allotment slots seat holder =
    Allows (KeepsRule allotment) slots seat holder 0 (λ word. (word + 1) % 2 ^ 64) (Draws (step slots 0 1 0 none) holder)
