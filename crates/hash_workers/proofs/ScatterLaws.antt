-- Outcomes that are put to their jobs, one after another.
use Rattle.std.proofs.Common.{◌≡◌, ◌≢◌, ℕ, ◌+◌, ◌<◌, List, [], ◌∷◌, ◌++◌, length, get_or, set, map, Some, refl, sym, ap, ◌∙◌, inl, inr, arith}
use Rattle.std.specs.Prelude.{slice_get, Vec}
use Rattle.std.specs.declared.alloc.Global.{Global}
use Rattle.std.proofs.lemmas.Bool.{cases_lt}
use Rattle.std.proofs.lemmas.Grind.{common_steps}
use Rattle.std.proofs.lemmas.Option.{gets, same_Some, slice_get_read}
use Rattle.hash_workers.specs.Names.{AreBelow, AreKept, ArePlaced, AreScattered, NumbersRise, NumbersRiseForEach, items_of}
use Rattle.hash_workers.proofs.ListLaws.{at_last, at_list, at_longer, at_map}
use Rattle.hash_workers.proofs.TakingLaws.{TakeEach}

-- ---- lists

pub get_set_same : {X : Type 0} → (xs : List X) (i : ℕ) (x : X) → i < length xs → slice_get (set xs i x) i ≡ Some x
get_set_same xs i x within = grind (arith, common_steps, gets)

pub get_set_other : {X : Type 0} → (xs : List X) (i j : ℕ) (x : X) → j ≢ i → slice_get (set xs i x) j ≡ slice_get xs j
get_set_other xs i j x other = grind (arith, common_steps, gets)

-- A list has all that its prefix has.
pub prefix_less : {X : Type 0} → (all longer prefix : List X) (x : X) → longer ≡ prefix ++ x ∷ []
    → ((i : ℕ) (y : X) → slice_get longer i ≡ Some y → slice_get all i ≡ Some y) → (i : ℕ) (y : X) → slice_get prefix i ≡ Some y
    → slice_get all i ≡ Some y
prefix_less all longer prefix x is has i y here = has i y (rw is (at_longer prefix x i y here))

pub prefix_last : {X : Type 0} → (all longer prefix : List X) (x : X) (n : ℕ) → longer ≡ prefix ++ x ∷ [] → n ≡ length prefix
    → ((i : ℕ) (y : X) → slice_get longer i ≡ Some y → slice_get all i ≡ Some y) → slice_get all n ≡ Some x
prefix_last all longer prefix x n is last has = has n x (rw (is, last) (at_last prefix x))

pub items_here : {T : Type 0} → (lists : List (Vec T Global)) (worker : ℕ) (one : Vec T Global) → worker < length lists
    → one ≡ get_or lists worker one
    → slice_get (map items_of lists) worker ≡ Some one.items
items_here lists worker one within is = at_map items_of lists worker one (slice_get_read lists (length lists) worker one refl within is)

-- ---- one worker

pub placed_more : {X : Type 0} → (taken : List ℕ) (group outcomes : List X) (by : List ℕ) (worker from next job : ℕ) (outcome : X)
    → from + 1 ≡ next → NumbersRise taken → slice_get taken from ≡ Some job → slice_get group from ≡ Some outcome → job < length outcomes
    → job < length by
    → ArePlaced taken group worker next outcomes by → ArePlaced taken group worker from (set outcomes job outcome) (set by job worker)
placed_more taken group outcomes by worker from next job outcome step rise took got within by_within placed = record {
  each = λ index other result after has_job has. elim (cases_lt from index) [
    | inl later ↦
        let above : job < other = rise.each from index job other later took has_job in
        let apart : other ≢ job = omega arith in
        let before = placed.each index other result (omega arith) has_job has in
        (get_set_other outcomes job other outcome apart ∙ before.0, get_set_other by job other worker apart ∙ before.1)
    | inr here ↦
        let same : index ≡ from = omega arith in
        let job_is : job ≡ other = same_Some job other (sym took ∙ (rw same at has_job)) in
        let outcome_is : outcome ≡ result = same_Some outcome result (sym got ∙ (rw same at has)) in
        rw (← job_is, ← outcome_is) (get_set_same outcomes job outcome within, get_set_same by job worker by_within)
  ];
}

pub kept_more : {X : Type 0} → (taken : List ℕ) (old outcomes : List X) (old_by by : List ℕ) (worker from next job : ℕ) (outcome : X)
    → from + 1 ≡ next → slice_get taken from ≡ Some job
    → AreKept taken next old outcomes old_by by → AreKept taken from old (set outcomes job outcome) old_by (set by job worker)
kept_more taken old outcomes old_by by worker from next job outcome step took kept = record {
  each = λ place none.
      let apart : place ≢ job = λ same. none from (omega arith) (took ∙ ap (λ (n : ℕ). Some n) (sym same)) in
      let before = kept.each place (λ index after. none index (omega arith)) in
      (get_set_other outcomes job place outcome apart ∙ before.0, get_set_other by job place worker apart ∙ before.1);
}

-- ---- all workers

pub below_of : (count : ℕ) (takings : List (List ℕ)) (worker : ℕ) (taken : List ℕ) → TakeEach count takings
    → slice_get takings worker ≡ Some taken → AreBelow count taken
below_of count takings worker taken hands here = record {
  each = λ index job has. hands.below worker index job (at_list takings worker index taken job here has);
}

pub rise_of : (takings : List (List ℕ)) (worker : ℕ) (taken : List ℕ) → NumbersRiseForEach takings → slice_get takings worker ≡ Some taken
    → NumbersRise taken
rise_of takings worker taken rise here = record {
  each = λ first second earlier later order has_first has_second.
      rise.each worker first second earlier later order (at_list takings worker first taken earlier here has_first)
      (at_list takings worker second taken later here has_second);
}

pub scattered_more : {X : Type 0}
    → (count : ℕ) (takings : List (List ℕ)) (groups : List (List X)) (worker next : ℕ) (taken : List ℕ) (group old outcomes : List X)
    (old_by by : List ℕ)
    → worker + 1 ≡ next → TakeEach count takings → slice_get takings worker ≡ Some taken → slice_get groups worker ≡ Some group
    → ArePlaced taken group worker 0 outcomes by → AreKept taken 0 old outcomes old_by by → AreScattered takings groups next old old_by
    → AreScattered takings groups worker outcomes by
scattered_more count takings groups worker next taken group old outcomes old_by by step hands has_taken has_group placed kept scattered =
    record {
      each = λ other index job outcome after took got. elim (cases_lt worker other) [
        | inl later ↦
            let before = scattered.each other index job outcome (omega arith) took got in
            let same = kept.each job (λ at _ has. let one : worker ≡ other = (hands.once worker other at index job
            (at_list takings worker at taken job has_taken has) took).0 in omega arith) in
            (same.0 ∙ before.0, same.1 ∙ before.1)
        | inr here ↦
            let same : other ≡ worker = omega arith in
            rw same (placed.each index job outcome (omega arith) (rw (same, has_taken) at took) (rw (same, has_group) at got))
      ];
    }
