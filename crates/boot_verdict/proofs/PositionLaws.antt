-- The positions of expected registers: the least prefix of the steps after which a value is reached.
use Rattle.std.proofs.Common.{◌≡◌, ℕ, ◌+◌, ◌<◌, Bool, true, false, eqb, leb, List, [], ◌∷◌, ◌++◌, length, map, take, drop, Option, Some, None, refl, sym, ap, subst, ◌∙◌, arith, inl, inr}
use Rattle.std.specs.Prelude.{fold}
use Rattle.std.specs.Global.{Vec}
use Rattle.std.proofs.lemmas.Bool.{cases_Bool}
use Rattle.std.proofs.lemmas.Bool.Decides.{eqb_tells, leb_tells}
use Rattle.std.proofs.lemmas.List.{append-nil, length-append, length-map, take_all}
use Rattle.std.proofs.lemmas.Simd.{map-map}
use Rattle.std.proofs.Math.Seq.{drop-length}
use Rattle.pcr_banks.specs.declared.alg.Alg.{Alg}
use Rattle.pcr_banks.specs.declared.banks.Banks.{Banks}
use Rattle.pcr_banks.specs.declared.sets.AlgSet.{AlgSet}
use Rattle.pcr_banks.specs.Names.{reset_value, value_at}
use Rattle.pcr_values.specs.declared.expected.Expected.{Expected}
use Rattle.boot_log.specs.declared.header.DeclaredAlgorithm.{DeclaredAlgorithm}
use Rattle.boot_log.specs.Names.{IsLog, LogEvent, algs_in, startup_locality}
use Rattle.ima_list.specs.Names.{ListEntry}
use Rattle.boot_verdict.specs.declared.steps.Located.{Located}
use Rattle.boot_verdict.specs.declared.steps.Position.{Position}
use Rattle.boot_verdict.specs.declared.steps.Position.TheVariants.{Reset, Event, Entry, Nowhere, Absent}
use Rattle.boot_verdict.specs.declared.steps.RowTracker.{RowTracker}
use Rattle.boot_verdict.specs.declared.report.State.TheVariants as states
use Rattle.boot_verdict.specs.declared.list_replay.ListReplay.{ListReplay}
use Rattle.boot_verdict.specs.Names.{AreAfter, AreAtReset, AreLocated, AreTracked, IsRowTrackerAfter, IsTracked, OfEntry, OfEvent, ReplaysAll, Step, entries_as_steps, events_as_steps, first_position, has_register, is_found, is_reached, is_value, least_prefix, located_after, located_on, looked_at, pcr_after, pcr_after_log_and_list, pcr_at_reset, position_after, position_at_reset, position_of_prefix, position_on, position_with, reached_after, register_of, row_at_reset, row_state, state_matches, stepped, steps_of, value_after}
use Rattle.boot_verdict.proofs.StepLaws.{TellsLeast, banks_joined, fun_same, least_more, least_tells, none_taken, or_all, steps_value, value_quiet}

pub two_ways : (b : Bool) → b ≡ true → b ≡ false → ⊥
two_ways b yes_is no_is = cc

-- ---- positions after steps

is_position : (events steps : ℕ) → is_found (position_after events steps) ≡ true
is_position events steps = elim (cases_Bool (eqb steps 0)) [
  | inl same ↦ rw same refl
  | inr other ↦ elim (cases_Bool (leb steps events)) [
    | inl within ↦ rw (other, within) refl
    | inr after ↦ rw (other, after) refl
  ]
]

-- The steps of a position.
abbrev pub steps_to : ℕ → Position → ℕ
steps_to events Reset = 0
steps_to events (Event number) = number
steps_to events (Entry number) = events + 1 + number
steps_to events Nowhere = 0
steps_to events Absent = 0

pub steps_back : (events steps : ℕ) → steps_to events (position_after events steps) ≡ steps
steps_back events steps = elim (eqb_tells steps 0) [
  | inl same ↦ rw same.0 (sym same.1)
  | inr other ↦ elim (leb_tells steps events) [
    | inl within ↦ rw (other.0, within.0) refl
    | inr after ↦ let more = after.1 in rw (other.0, after.0) (omega (arith, more))
  ]
]

-- ---- what a position says

abbrev reaches : Expected → List ℕ → List Step → Bool
reaches e v prefix = is_value e (fold (stepped e.alg e.register) v prefix)

-- The position is that of the least number of steps after which the value is reached; after none it is, if the position is not found.
abbrev TellsPosition : ℕ → (ℕ → Bool) → Position → Type 0
TellsPosition events reached position =
    ((steps : ℕ) → position ≡ position_after events steps → (reached steps ≡ true) × ((fewer : ℕ) → fewer < steps → reached fewer ≡ false))
    × (is_found position ≡ false → (steps : ℕ) → reached steps ≡ false)

pub position_tells : (events : ℕ) (e : Expected) (start : Option (List ℕ)) (all : List Step)
    → TellsPosition events (λ n. is_reached e (value_after e.alg e.register start (take n all))) (first_position events e start all)
position_tells events e None all =
    (λ steps same. absurd (two_ways (is_found (position_after events steps)) (is_position events steps) (sym (ap is_found same))), λ none steps. refl)
position_tells events e (Some v) all = by (least_prefix (reaches e v) all) (least_tells (reaches e v) all)
  where
    by : (found : Option (List Step)) → TellsLeast (reaches e v) all found → TellsPosition events (λ n. reaches e v (take n all)) (position_of_prefix events found)
    by None tells =
        (λ steps same. absurd (two_ways (is_found (position_after events steps)) (is_position events steps) (sym (ap is_found same))), λ none. tells)
    by (Some prefix) tells = (
      λ steps same.
          let many : length prefix ≡ steps = sym (steps_back events (length prefix)) ∙ ap (steps_to events) same ∙ steps_back events steps in
          let taken : prefix ≡ take steps all = tells.0 ∙ ap (λ (n : ℕ). take n all) many in
          (subst (λ (l : List Step). reaches e v l ≡ true) taken tells.1, λ fewer lt. tells.2 fewer (omega (arith, many, lt))),
      λ none. absurd (two_ways (is_found (position_after events (length prefix))) (is_position events (length prefix)) none),
    )

-- After all steps the register is that of the log and the list.
pub all_steps : (algs : AlgSet) (events : List LogEvent) (entries : List ListEntry) (alg : Alg) (register : ℕ)
    → pcr_after algs events entries alg register (length events + length entries) ≡ pcr_after_log_and_list algs events entries alg register
all_steps algs events entries alg register =
    let size = length-append (events_as_steps events) (entries_as_steps entries) in
    let log = length-map events (λ (event : LogEvent). OfEvent event) in
    let list = length-map entries (λ (entry : ListEntry). OfEntry entry) in
    ap (value_after alg register (pcr_at_reset algs events alg register))
    (take_all (length events + length entries) (steps_of events entries) (omega (arith, size, log, list)))
    ∙ elim (cases_Bool (has_register algs alg register)) [
      | inl here ↦ rw here (ap (λ (v : List ℕ). Some v) (steps_value alg register (reset_value alg register (startup_locality events)) events entries))
      | inr none ↦ rw none refl
    ]

-- A register that is reached matches.
pub row_matches : (e : Expected) (value : Option (List ℕ)) → is_reached e value ≡ state_matches (row_state e value)
row_matches e None = refl
row_matches e (Some bytes) = elim (cases_Bool (is_value e bytes)) [
  | inl same ↦ rw same refl
  | inr other ↦ rw other refl
]

-- A register that has its value in the end was found.
pub match_found : (algs : AlgSet) (events : List LogEvent) (entries : List ListEntry) (e : Expected)
    → row_state e (pcr_after_log_and_list algs events entries e.alg e.register) ≡ states.Match
    → is_found (position_on algs events entries e) ≡ true
match_found algs events entries e same = elim (cases_Bool (is_found (position_on algs events entries e))) [
  | inl found ↦ found
  | inr none ↦
      let steps = length events + length entries in
      let tells = position_tells (length events) e (pcr_at_reset algs events e.alg e.register) (steps_of events entries) in
      absurd (two_ways (reached_after algs events entries e steps)
      (ap (is_reached e) (all_steps algs events entries e.alg e.register)
      ∙ row_matches e (pcr_after_log_and_list algs events entries e.alg e.register) ∙ ap state_matches same) (tells.1 none steps))
]

-- ---- one step of a row

found_stays : (position next : Position) (reached : Bool) → is_found position ≡ true → position_with position next reached ≡ position
found_stays Reset next reached found = refl
found_stays (Event number) next reached found = refl
found_stays (Entry number) next reached found = refl
found_stays Nowhere next reached found = absurd cc
found_stays Absent next reached found = absurd cc

placed : (events : ℕ) (found : Option (List Step)) (steps : List Step) (passes : Bool)
    → position_of_prefix events (or_all found steps passes) ≡ position_with (position_of_prefix events found) (position_after events (length steps)) passes
placed events None steps true = refl
placed events None steps false = refl
placed events (Some prefix) steps passes =
    sym (found_stays (position_after events (length prefix)) (position_after events (length steps)) passes (is_position events (length prefix)))

-- The position with one more step: the old one, or that after all the steps if the value is reached now.
position_more : (events : ℕ) (e : Expected) (start : Option (List ℕ)) (steps : List Step) (step : Step)
    → first_position events e start (steps ++ step ∷ [])
    ≡ position_with (first_position events e start steps) (position_after events (length (steps ++ step ∷ [])))
    (is_reached e (value_after e.alg e.register start (steps ++ step ∷ [])))
position_more events e None steps step = refl
position_more events e (Some v) steps step =
    ap (position_of_prefix events) (least_more (reaches e v) steps step)
    ∙ placed events (least_prefix (reaches e v) steps) (steps ++ step ∷ []) (reaches e v (steps ++ step ∷ []))

-- A step of another register changes no position.
kept : (events : ℕ) (found : Option (List Step)) (steps : List Step) (passes : Bool) → (found ≡ None → passes ≡ false)
    → position_of_prefix events (or_all found steps passes) ≡ position_of_prefix events found
kept events None steps true quiet = let fails = quiet refl in absurd cc
kept events None steps false quiet = refl
kept events (Some prefix) steps passes quiet = refl

position_quiet : (events : ℕ) (e : Expected) (start : Option (List ℕ)) (steps : List Step) (step : Step) → eqb e.register (register_of step) ≡ false
    → first_position events e start (steps ++ step ∷ []) ≡ first_position events e start steps
position_quiet events e None steps step other = refl
position_quiet events e (Some v) steps step other =
    ap (position_of_prefix events) (least_more (reaches e v) steps step)
    ∙ kept events (least_prefix (reaches e v) steps) (steps ++ step ∷ []) (reaches e v (steps ++ step ∷ []))
    (λ none. ap (is_value e) (value_quiet e.alg e.register v steps step other)
    ∙ ap (reaches e v) (sym (take_all (length steps) steps (omega arith)))
    ∙ subst (TellsLeast (reaches e v) steps) none (least_tells (reaches e v) steps) (length steps))

-- ---- one step of the watch

abbrev pub located : Expected → Position → Located
located e position = record { expected = e; position = position }

row_more : (events : ℕ) (start now : Banks) (steps : List Step) (step : Step) (e : Expected) (register : ℕ) (position : Position)
    → register ≡ register_of step → position ≡ position_after events (length (steps ++ step ∷ []))
    → value_at now e.alg e.register ≡ value_after e.alg e.register (value_at start e.alg e.register) (steps ++ step ∷ [])
    → looked_at now register position (located_after events start steps e) ≡ located_after events start (steps ++ step ∷ []) e
row_more events start now steps step e register position of at value = elim (cases_Bool (eqb e.register register)) [
  | inl same ↦ rw (same, at, value) (ap (located e) (sym (position_more events e (value_at start e.alg e.register) steps step)))
  | inr other ↦ rw other
      (ap (located e) (sym (position_quiet events e (value_at start e.alg e.register) steps step (ap (eqb e.register) (sym of) ∙ other))))
]

-- The watch after one more step.
pub tracker_more : (start : RowTracker) (events : ℕ) (before : List Step) (step : Step) (old new : RowTracker) (register : ℕ) (position : Position)
    → register ≡ register_of step → position ≡ position_after events (length before + 1) → AreAfter old.banks (step ∷ []) new.banks
    → new.rows.items ≡ map (looked_at new.banks register position) old.rows.items
    → IsRowTrackerAfter start events before old → IsRowTrackerAfter start events (before ++ step ∷ []) new
tracker_more start events before step old new register position of at one look after =
    let banks = banks_joined start.banks old.banks new.banks before (step ∷ []) after.banks one in
    let at_all : position ≡ position_after events (length (before ++ step ∷ [])) = at ∙ ap (position_after events) (sym (length-append before (step ∷ []))) in
    record {
      banks = banks;
      rows = look ∙ ap (map (looked_at new.banks register position)) after.rows
          ∙ map-map (looked_at new.banks register position) (λ (row : Located). located_after events start.banks before row.expected) start.rows.items
          ∙ ap (λ (f : Located → Located). map f start.rows.items)
          (fun_same _ _ (λ row. row_more events start.banks new.banks before step row.expected register position of at_all
          (banks.values row.expected.alg row.expected.register)));
    }

-- A vector whose elements were written.
pub rows_written : (f : Located → Located) (old new : List Located) (size : ℕ) → size ≡ length old → new ≡ map f old
    → take size (new ++ drop (length new) old) ≡ map f old
rows_written f old new size is same =
    let long : length new ≡ length old = ap (λ (l : List Located). length l) same ∙ length-map old f in
    let none : drop (length new) old ≡ [] = ap (λ (n : ℕ). drop n old) long ∙ drop-length old in
    ap (λ (l : List Located). take size (new ++ l)) none ∙ ap (take size) (append-nil new)
    ∙ take_all size new (omega (arith, is, long)) ∙ same

-- ---- before the first step

at_reset : (events : ℕ) (e : Expected) (value : Option (List ℕ)) → position_at_reset e value ≡ first_position events e value []
at_reset events e None = refl
at_reset events e (Some v) = elim (cases_Bool (is_value e v)) [
  | inl same ↦ rw same refl
  | inr other ↦ rw other refl
]

pub tracker_none : (start : Banks) (events : ℕ) (expected : List Expected) (rows : Vec Located) → rows.items ≡ map (row_at_reset start) expected
    → IsRowTrackerAfter (record { banks = start; rows = rows }) events [] (record { banks = start; rows = rows })
tracker_none start events expected rows are = record {
  banks = none_taken start;
  rows = are ∙ ap (λ (f : Expected → Located). map f expected)
      (fun_same _ _ (λ e. ap (located e) (at_reset events e (value_at start e.alg e.register))))
      ∙ sym (ap (map (λ (row : Located). located_after events start [] row.expected)) are
      ∙ map-map (λ (row : Located). located_after events start [] row.expected) (row_at_reset start) expected);
}

-- ---- a log and a list

-- The positions of the expected registers among these steps, from banks that have them at their reset values.
positions_same : (algs : AlgSet) (events : List LogEvent) (banks : Banks) (steps : List Step) (expected : List Expected)
    → AreAtReset algs events expected banks
    → map (λ e. located e (first_position (length events) e (value_at banks e.alg e.register) steps)) expected
    ≡ map (λ e. located e (first_position (length events) e (pcr_at_reset algs events e.alg e.register) steps)) expected
positions_same algs events banks steps [] at = refl
positions_same algs events banks steps (e ∷ expected) (here, at) =
    let first = ap (λ (v : Option (List ℕ)). located e (first_position (length events) e v steps)) here in
    let others = positions_same algs events banks steps expected at in
    λ i. first i ∷ others i

-- The rows after the list.
pub located_all : {algs : AlgSet} {events : List LogEvent} {expected : List Expected} {start now : RowTracker} (entries : List ListEntry)
    → IsTracked algs events expected start → AreTracked IsRowTrackerAfter start entries now → now.rows.items ≡ located_on algs events entries expected
located_all {algs = algs} {events = events} {expected = expected} entries log list =
    let steps = steps_of events entries in
    let count = length events in
    let after = list log.start count (events_as_steps events) (sym (length-map events (λ (event : LogEvent). OfEvent event))) log.after in
    after.rows
    ∙ ap (map (λ (row : Located). located_after count log.start.banks steps row.expected)) log.rows
    ∙ map-map (λ (row : Located). located_after count log.start.banks steps row.expected) (row_at_reset log.start.banks) expected
    ∙ positions_same algs events log.start.banks steps expected log.reset

pub located_in : {log list : List ℕ} {table : List DeclaredAlgorithm} {events : List LogEvent} {expected : List Expected} {start : RowTracker} {replay : ListReplay RowTracker}
    → IsLog log table events → IsTracked (algs_in table) events expected start → ReplaysAll IsRowTrackerAfter start list replay
    → AreLocated log list expected replay.tracker.rows.items
located_in {table = table} {events = events} is tracked all = record {
  table = table;
  events = events;
  entries = all.entries;
  log_is = is;
  list_is = all.reading;
  genuine = all.genuine;
  located_are = located_all all.entries tracked all.tracked;
}
