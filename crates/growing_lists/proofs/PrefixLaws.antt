-- The search for the confirmed prefix: one more step, and what is found at the end.
use Rattle.std.proofs.Common.{◌≡◌, ℕ, zero, suc, ◌+◌, ◌-◌, ◌^◌, ◌<◌, ◌≤◌, min, Bool, true, false, cond, eqb, leb, List, [], ◌∷◌, ◌++◌, length, take, drop, Option, Some, None, option_map, Ok, Err, refl, sym, ap, subst, ◌∙◌, append_assoc, append-nil, arith, inl, inr}
use Rattle.std.specs.Prelude.{◌&&◌}
use Rattle.std.specs.List.{AllByRecursion, list_all}
use Rattle.std.specs.Option.{option_or}
use Rattle.std.proofs.Math.Bool.{and-false}
use Rattle.std.proofs.lemmas.Bool.Decides.{eqb_tells, leb_tells}
use Rattle.std.proofs.lemmas.Grind.{flat_map-append}
use Rattle.std.proofs.lemmas.List.{length-append, length-map, length-take, length-take-le, take-append-drop, take-append-le, take-map, take-take, take_all}
use Rattle.std.proofs.lemmas.List.Folds.{list_all-map}
use Rattle.std.proofs.lemmas.List.Sums.{fold-append}
use Rattle.pcr_banks.specs.declared.alg.Alg.{Alg}
use Rattle.pcr_banks.specs.declared.banks.Banks.{Banks}
use Rattle.pcr_banks.specs.declared.sets.AlgSet.{AlgSet}
use Rattle.pcr_banks.specs.Names.{alg_of, bytes_of, extended_by_all, value_at}
use Rattle.pcr_values.specs.declared.expected.Expected.{Expected}
use Rattle.boot_log.specs.Names.{IsFirmware, LogEvent}
use Rattle.ima_list.specs.Names.{AreGenuine, BeginsWith, IsEntry, IsGenuine, ListEntry, digests_of, list_spelling, spelling}
use Rattle.ima_list.proofs.PieceLaws.{reading_to_the_end}
use Rattle.boot_verdict.specs.declared.aggregate_rule.AggregateRule.{AggregateRule}
use Rattle.boot_verdict.specs.declared.checkpoint.Checkpoint.{Checkpoint}
use Rattle.boot_verdict.specs.declared.report.Unconfirmed.{Unconfirmed}
use Rattle.boot_verdict.specs.declared.report.Unconfirmed.TheVariants as unconfirmed
use Rattle.growing_lists.specs.declared.confirmation.Confirming.{Confirming}
use Rattle.growing_lists.specs.declared.confirmation.Prefix.{Prefix}
use Rattle.boot_verdict.specs.declared.list_replay.ListReplay.{ListReplay}
use Rattle.boot_verdict.specs.declared.steps.Position.{Position}
use Rattle.boot_verdict.specs.declared.steps.Position.TheVariants.{Reset, Event, Entry, Nowhere, Absent}
use Rattle.boot_verdict.specs.Names.{After, AreAfter, AreTracked, CameFrom, IsCheckpoint, IsMoreFault, IsReplayedOrForged, OfEntry, Replays, ReplaysAll, ReplaysMore, Step, StopsAt, WatchesAll, aggregate_under, aggregate_with, entries_as_steps, first_stray, is_good, is_match, is_reached, least_prefix, pcr_after_log_and_list, position_after, recorded_aggregate, row_on, stray_from, told_aggregate, value_after}
use Rattle.boot_verdict.specs.declared.isolation.Stray.{Stray}
use Rattle.tpm_quotes.specs.Quoting.{Values}
use Rattle.growing_lists.specs.declared.confirmation.Goal.{Goal}
use Rattle.growing_lists.specs.Goals.{GoalData, OfExpected, OfQuote, SoughtData, goal_data, is_confirmed, is_confirmed_under, is_met, is_sought}
use Rattle.growing_lists.specs.parts.Confirming.{PrefixIs, IsConfirmingAfter, IsPrefixAt, confirms, prefix_at, is_late, search_after, search_before, size_after, size_more, values_after}
use Rattle.growing_lists.specs.parts.Searches.{FindsPrefix, IsConfirmedAt, Searches, WatchesSearch, checkpoint_at, fault_in, prefix_after, prefix_with, stray_within, whole_after}
use Rattle.boot_verdict.proofs.PositionLaws.{row_matches, steps_back, steps_to, two_ways}
use Rattle.boot_verdict.proofs.StepLaws.{TellsLeast, banks_joined, entries_value, followed_by, fun_same, least_more, least_tells, none_taken, or_all, position_of_entry, replayed_after}

-- ---- positions

-- Whether an entry may be the last of a prefix, by the steps up to it.
early : (first events n : ℕ) → n ≤ events + first → is_late first (position_after events n) ≡ false
early first events n few = elim (eqb_tells n 0) [
  | inl same ↦ rw same.0 refl
  | inr some ↦ elim (leb_tells n events) [
    | inl within ↦ rw (some.0, within.0) refl
    | inr after ↦ elim (leb_tells first (n - events - 1)) [
      | inl late ↦ let more = after.1 in let far = late.1 in absurd (omega (arith, few, more, far))
      | inr before ↦ rw (some.0, after.0, before.0) refl
    ]
  ]
]

late : (first events n : ℕ) → events + first < n → is_late first (position_after events n) ≡ true
late first events n many =
    let position = position_of_entry events n (n - events - 1) (omega (arith, many)) in
    elim (leb_tells first (n - events - 1)) [
      | inl le ↦ rw (position, le.0) refl
      | inr gt ↦ let less = gt.1 in absurd (omega (arith, many, less))
    ]

-- ---- one more step

met_same : (start now : Banks) (goal : GoalData) (steps : List Step) → AreAfter start steps now
    → is_met goal (value_at now) ≡ is_met goal (values_after start steps)
met_same start now goal steps after =
    let all : value_at now ≡ values_after start steps = λ i alg register. after.values alg register i in
    ap (is_met goal) all

prefix_by : {start : Confirming} {events : ℕ} {steps : List Step} {prefix : Prefix} (passes : Bool) → IsPrefixAt start events steps prefix
    → PrefixIs start events (cond passes (Some steps) None) (cond passes (Some prefix) None)
prefix_by true is = is
prefix_by false is = tt

-- After an entry the registers are looked at.
prefix_here : (start now : Confirming) (events : ℕ) (steps : List Step) (last : ℕ) → position_after events (length steps) ≡ Entry last
    → AreAfter start.banks steps now.banks → now.bytes ≡ size_after start.bytes steps → now.first ≡ start.first → now.goal ≡ start.goal
    → PrefixIs start events (cond (confirms start events steps) (Some steps) None) (prefix_at now (Entry last))
prefix_here start now events steps last position banks bytes first goal =
    let from = sym first in
    let that = sym goal in
    let passes : confirms start events steps ≡ (leb now.first last && is_met (goal_data now.goal) (value_at now.banks)) =
    ap (λ (p : Position). is_late start.first p && is_met (goal_data start.goal) (values_after start.banks steps)) position
    ∙ (λ i. leb (from i) last && is_met (goal_data (that i)) (values_after start.banks steps))
    ∙ ap (λ (b : Bool). leb now.first last && b) (sym (met_same start.banks now.banks (goal_data now.goal) steps banks)) in
    rw passes (prefix_by (leb now.first last && is_met (goal_data now.goal) (value_at now.banks)) (record { position = position; registers = banks; size = bytes }))

module _ (start : Confirming) (events : ℕ) (before : List Step) (step : Step) where
  abbrev all : List Step
  all = before ++ step ∷ []

  prefix_next : (now : Confirming) (position : Position) → position_after events (length all) ≡ position → AreAfter start.banks all now.banks
      → now.bytes ≡ size_after start.bytes all → now.first ≡ start.first → now.goal ≡ start.goal
      → (found : Option (List Step)) (old : Option Prefix) → PrefixIs start events found old
      → PrefixIs start events (or_all found all (confirms start events all)) (option_or old (prefix_at now position))
  prefix_next now position at banks bytes first goal (Some steps) (Some prefix) is = is
  prefix_next now position at banks bytes first goal (Some steps) None is = absurd is
  prefix_next now position at banks bytes first goal None (Some prefix) is = absurd is
  prefix_next now (Entry last) at banks bytes first goal None None is = prefix_here start now events all last at banks bytes first goal
  prefix_next now Reset at banks bytes first goal None None is = rw at tt
  prefix_next now (Event number) at banks bytes first goal None None is = rw at tt
  prefix_next now Nowhere at banks bytes first goal None None is = rw at tt
  prefix_next now Absent at banks bytes first goal None None is = rw at tt

  -- After any step.
  pub search_more : (old now : Confirming) (position : Position) → IsConfirmingAfter start events before old → AreAfter old.banks (step ∷ []) now.banks
      → now.bytes ≡ size_more old.bytes step → now.first ≡ old.first → now.goal ≡ old.goal → position ≡ position_after events (length before + 1)
      → now.prefix ≡ option_or old.prefix (prefix_at now position) → IsConfirmingAfter start events all now
  search_more old now position earlier one bytes first goal at prefix =
      let banks = banks_joined start.banks old.banks now.banks before (step ∷ []) earlier.banks one in
      let size : now.bytes ≡ size_after start.bytes all =
      bytes ∙ ap (λ (n : ℕ). size_more n step) earlier.bytes ∙ sym (fold-append size_more start.bytes before (step ∷ [])) in
      let at_all : position_after events (length all) ≡ position = ap (position_after events) (length-append before (step ∷ [])) ∙ sym at in
      record {
        banks = banks;
        bytes = size;
        first = first ∙ earlier.first;
        goal = goal ∙ earlier.goal;
        prefix = rw (prefix, least_more (confirms start events) before step)
            (prefix_next now position at_all banks size (first ∙ earlier.first) (goal ∙ earlier.goal) (least_prefix (confirms start events) before)
            old.prefix earlier.prefix);
      }

-- ---- bytes

-- The bytes of entries, as far as 64 bits count them.
pub sized : (entries : List ListEntry) (n : ℕ) → n + length (list_spelling entries) < 2 ^ 64
    → size_after n (entries_as_steps entries) ≡ n + length (list_spelling entries)
sized [] n few = omega arith
sized (entry ∷ entries) n few =
    let size : length (list_spelling (entry ∷ entries)) ≡ length (spelling entry) + length (list_spelling entries) =
    length-append (spelling entry) (list_spelling entries) in
    let one : min (n + length (spelling entry)) (2 ^ 64 - 1) ≡ n + length (spelling entry) = omega (arith, few, size) in
    ap (λ (m : ℕ). size_after m (entries_as_steps entries)) one ∙ sized entries (n + length (spelling entry)) (omega (arith, few, size))
    ∙ omega (arith, size)

-- ---- a checkpoint is searched

-- The least prefix is all of the steps, if no other passes.
only_whole : (test : List Step → Bool) (steps : List Step) → ((n : ℕ) → n < length steps → test (take n steps) ≡ false)
    → least_prefix test steps ≡ cond (test steps) (Some steps) None
only_whole test steps fails = by (least_prefix test steps) (least_tells test steps)
  where
    by : (found : Option (List Step)) → TellsLeast test steps found → found ≡ cond (test steps) (Some steps) None
    by None tells = rw (ap test (sym (take_all (length steps) steps (omega arith))) ∙ tells (length steps)) refl
    by (Some prefix) tells = elim (leb_tells (length steps) (length prefix)) [
      | inl le ↦
          let long = le.1 in
          let same : prefix ≡ steps = tells.0 ∙ take_all (length prefix) steps (omega (arith, long)) in
          rw (ap test (sym same) ∙ tells.1, same) refl
      | inr gt ↦ let short = gt.1 in absurd (two_ways (test prefix) tells.1 (ap test tells.0 ∙ fails (length prefix) short))
    ]

-- After the list of a checkpoint, whose end is looked at.
module _ (list : List ℕ) (known : Checkpoint) (goal : Goal) (is : IsCheckpoint list known) (few : known.bytes < 2 ^ 64)
    (origin : Confirming) (events : ℕ) (log : List Step) (size : events ≡ length log)
    (after : IsConfirmingAfter origin events log (search_before known goal)) where
  abbrev steps : List Step
  steps = log ++ entries_as_steps is.entries

  known_banks : AreAfter origin.banks steps known.after
  known_banks = followed_by known.before known.after is.entries is.replayed origin.banks events log size after.banks

  known_bytes : known.bytes ≡ size_after origin.bytes steps
  known_bytes =
      let listed : length list ≡ length (list_spelling is.entries) =
      ap (λ (l : List ℕ). length l) (is.list_is.begins.parts ∙ append-nil (list_spelling is.entries)) in
      let counted : size_after 0 (entries_as_steps is.entries) ≡ length (list_spelling is.entries) =
      sized is.entries 0 (omega (arith, few, is.size, listed)) ∙ omega arith in
      is.size ∙ listed ∙ sym counted
      ∙ ap (λ (n : ℕ). size_after n (entries_as_steps is.entries)) after.bytes
      ∙ sym (fold-append size_more origin.bytes log (entries_as_steps is.entries))

  known_count : length steps ≡ events + known.entries
  known_count =
      let listed = length-map is.entries (λ (entry : ListEntry). OfEntry entry) in
      omega (arith, size, is.count, listed, length-append log (entries_as_steps is.entries))

  known_prefix : PrefixIs origin events (least_prefix (confirms origin events) steps) (search_after known goal).prefix
  known_prefix =
      let first = after.first in
      let only : least_prefix (confirms origin events) steps ≡ cond (confirms origin events steps) (Some steps) None =
      only_whole (confirms origin events) steps (λ n lt.
      rw (early origin.first events (length (take n steps)) (omega (arith, length-take-le n steps (omega (arith, lt)), lt, first, known_count))) refl) in
      elim (eqb_tells known.entries 0) [
        | inl same ↦
            let nothing = same.1 in
            let none : confirms origin events steps ≡ false = rw (early origin.first events (length steps) (omega (arith, known_count, nothing))) refl in
            rw (same.0, only, none) tt
        | inr other ↦
            let some = other.1 in
            let position : position_after events (length steps) ≡ Entry (known.entries - 1) =
            position_of_entry events (length steps) (known.entries - 1) (omega (arith, known_count, some)) in
            rw (other.0, only) (prefix_here origin
            (record { banks = known.after; bytes = known.bytes; first = known.entries - 1; goal = goal; prefix = None })
            events steps (known.entries - 1) position known_banks known_bytes first after.goal)
      ]

  known_after : IsConfirmingAfter origin events steps (search_after known goal)
  known_after = record { banks = known_banks; bytes = known_bytes; first = after.first; goal = after.goal; prefix = known_prefix }

pub known_search : (list : List ℕ) (known : Checkpoint) (goal : Goal) → IsCheckpoint list known → known.bytes < 2 ^ 64
    → ReplaysAll IsConfirmingAfter (search_before known goal) list
    (record { tracker = search_after known goal; entries = known.entries; recorded = known.recorded; told = known.told; stray = known.stray; forged = None })
known_search list known goal is few =
    let tracked = known_after list known goal is few in
    record {
      entries = is.entries;
      reading = is.list_is;
      replays = record { count = is.count; recorded = is.recorded; told = is.told; stray = is.stray; replayed = (is.genuine, tracked) };
      genuine = is.genuine;
      tracked = tracked;
    }

-- ---- at the end

all_take : {A : Type 0} (P : A → Type 0) (n : ℕ) (xs : List A) → AllByRecursion P xs → AllByRecursion P (take n xs)
all_take P zero xs each = tt
all_take P (suc n) [] each = tt
all_take P (suc n) (x ∷ xs) each = (each.0, all_take P n xs each.1)

recorded_take : (n : ℕ) (entries : List ListEntry) → 0 < n → recorded_aggregate (take n entries) ≡ recorded_aggregate entries
recorded_take zero entries some = absurd (omega (arith, some))
recorded_take (suc n) [] some = refl
recorded_take (suc n) (entry ∷ entries) some = refl

told_take : (n : ℕ) (entries : List ListEntry) → 0 < n → told_aggregate (take n entries) ≡ told_aggregate entries
told_take zero entries some = absurd (omega (arith, some))
told_take (suc n) [] some = refl
told_take (suc n) (entry ∷ entries) some = refl

-- The boot aggregate of no entries is good by no rule.
none_good : (rule : AggregateRule) (algs : AlgSet) (events : List LogEvent) → is_good (aggregate_under rule algs events []) ≡ false
none_good rule algs events = by rule.wide rule.old_kernel
  where
    by : (wide old : Bool) → is_good (aggregate_under (record { wide = wide; old_kernel = old }) algs events []) ≡ false
    by false false = refl
    by false true = refl
    by true false = refl
    by true true = refl

-- The first stray entry of these, where the first has the number `k`, has no smaller number.
not_before : (k last : ℕ) (entries : List ListEntry) → last < k → stray_within (stray_from k entries) last ≡ None
not_before k last [] lt = refl
not_before k last (entry ∷ entries) lt =
    before (eqb entry.register 10) (record { entry = k; register = entry.register }) (stray_from (k + 1) entries) (stray_is_after k last lt)
    (not_before (k + 1) last entries (omega (arith, lt)))
  where
    stray_is_after : (k last : ℕ) → last < k → leb k last ≡ false
    stray_is_after k last lt = elim (leb_tells k last) [
      | inl le ↦ let no = le.1 in absurd (omega (arith, lt, no))
      | inr gt ↦ gt.0
    ]

    before : (b : Bool) (first : Stray) (rest : Option Stray) → leb first.entry last ≡ false → stray_within rest last ≡ None
        → stray_within (cond b rest (Some first)) last ≡ None
    before true first rest late none = none
    before false first rest late none = rw late refl

stray_take_from : (k n last : ℕ) (entries : List ListEntry) → k + n ≡ 1 + last
    → stray_within (stray_from k entries) last ≡ stray_from k (take n entries)
stray_take_from k zero last entries size = not_before k last entries (omega (arith, size))
stray_take_from k (suc n) last [] size = refl
stray_take_from k (suc n) last (entry ∷ entries) size =
    one (eqb entry.register 10) (record { entry = k; register = entry.register }) (stray_from (k + 1) entries) (stray_from (k + 1) (take n entries))
    here (stray_take_from (k + 1) n last entries (omega (arith, size)))
  where
    here : leb k last ≡ true
    here = elim (leb_tells k last) [
      | inl le ↦ le.0
      | inr gt ↦ let more = gt.1 in absurd (omega (arith, size, more))
    ]

    one : (b : Bool) (first : Stray) (all some : Option Stray) → leb first.entry last ≡ true → stray_within all last ≡ some
        → stray_within (cond b all (Some first)) last ≡ cond b some (Some first)
    one true first all some within same = same
    one false first all some within same = rw within refl

-- The first stray entry of a prefix is that of all, if it is within.
stray_take : (n last : ℕ) (entries : List ListEntry) → n ≡ 1 + last → stray_within (first_stray entries) last ≡ first_stray (take n entries)
stray_take n last entries size = stray_take_from 0 n last entries (omega (arith, size))

module _ (algs : AlgSet) (events : List LogEvent) (start : Banks) (firmware : IsFirmware algs events start) where
  value_reached : (entries : List ListEntry) (alg : Alg) (register : ℕ)
      → value_after alg register (value_at start alg register) (entries_as_steps entries) ≡ pcr_after_log_and_list algs events entries alg register
  value_reached entries alg register =
      ap (λ (f : List ℕ → List ℕ). option_map f (value_at start alg register)) (fun_same _ _ (λ v. entries_value alg register v entries))
      ∙ ap (option_map (λ value. extended_by_all alg value (digests_of entries alg register))) (firmware.values alg register)

  values_reached : (entries : List ListEntry) → values_after start (entries_as_steps entries) ≡ pcr_after_log_and_list algs events entries
  values_reached entries = λ i alg register. value_reached entries alg register i

  -- Log and list are confirmed if the boot aggregate is good, and the values are as is sought.
  confirmed_under : (rule : AggregateRule) (sought : SoughtData) (entries : List ListEntry)
      → is_confirmed_under rule sought algs events entries
      ≡ (is_good (aggregate_under rule algs events entries) && is_sought sought (values_after start (entries_as_steps entries)))
  confirmed_under rule (OfExpected expected) entries =
      ap (λ (b : Bool). is_good (aggregate_under rule algs events entries) && b)
      (list_all-map is_match (row_on algs events entries) expected
      ∙ ap (λ (p : Expected → Bool). list_all p expected) (fun_same _ _ (λ e.
      sym (ap (is_reached e) (value_reached entries e.alg e.register)
      ∙ row_matches e (pcr_after_log_and_list algs events entries e.alg e.register)))))
  confirmed_under rule (OfQuote quote) entries =
      ap (λ (v : Values). is_good (aggregate_under rule algs events entries) && is_sought (OfQuote quote) v) (sym (values_reached entries))

  confirmed_by : (goal : GoalData) (entries : List ListEntry) → is_confirmed goal algs events entries
      ≡ (is_good (aggregate_under goal.rule algs events entries) && is_met goal (values_after start (entries_as_steps entries)))
  confirmed_by goal entries = confirmed_under goal.rule goal.sought entries

-- The genuine entries at the start of those that were searched.
pub record IsSearched (known : Checkpoint) (goal : Goal) (entries : List ListEntry) (now : Confirming) : Type 0 where
  pub genuine : List ListEntry
  pub others : List ListEntry
  pub parts : entries ≡ genuine ++ others
  pub are : AreGenuine genuine
  pub most : (n : ℕ) → n ≤ length entries → AreGenuine (take n entries) → n ≤ length genuine
  pub after : IsConfirmingAfter (search_before known goal) 0 (entries_as_steps genuine) now

pub search_none : (known : Checkpoint) (goal : Goal) → IsConfirmingAfter (search_before known goal) 0 [] (search_before known goal)
search_none known goal = record { banks = none_taken known.before; bytes = refl; first = refl; goal = refl; prefix = tt }

-- No genuine prefix goes on beyond an entry that is not.
pub within_genuine : (before after : List ListEntry) (forged : ListEntry) (n : ℕ) → (IsGenuine forged → ⊥) → AreGenuine (take n (before ++ forged ∷ after))
    → n ≤ length before
within_genuine before after forged zero no_is are = omega arith
within_genuine [] after forged (suc n) no_is are = absurd (no_is are.0)
within_genuine (first ∷ before) after forged (suc n) no_is are =
    let within = within_genuine before after forged n no_is are.1 in omega (arith, within)

search_list : (known : Checkpoint) (goal : Goal) (entries : List ListEntry) (now : Confirming) (forged : Option ℕ)
    → IsReplayedOrForged IsConfirmingAfter (search_before known goal) entries now forged → IsSearched known goal entries now
search_list known goal entries now None is = record {
  genuine = entries;
  others = [];
  parts = sym (append-nil entries);
  are = is.0;
  most = λ n le are. le;
  after = is.1 (search_before known goal) 0 [] refl (search_none known goal);
}
search_list known goal entries now (Some position) (first, tracked) = record {
  genuine = first.before;
  others = first.forged ∷ first.after;
  parts = first.parts;
  are = first.genuine_before;
  most = λ n le are. within_genuine first.before first.after first.forged n first.is_forged
      (subst (λ (l : List ListEntry). AreGenuine (take n l)) first.parts are);
  after = tracked (search_before known goal) 0 [] refl (search_none known goal);
}

-- ---- the prefix

module _ (known : Checkpoint) (goal : Goal) (bytes : List ℕ) (entries : List ListEntry) (rest : List ℕ) (replay : ListReplay Confirming)
    (begins : BeginsWith bytes entries rest) (replays : Replays IsConfirmingAfter (search_before known goal) entries replay)
    (few : length bytes < 2 ^ 64) (counted : replay.entries < 2 ^ 64) where
  abbrev found : IsSearched known goal entries replay.tracker
  found = search_list known goal entries replay.tracker replay.forged replays.replayed

  abbrev steps_found : List Step
  steps_found = entries_as_steps found.genuine

  abbrev test : List Step → Bool
  test = confirms (search_before known goal) 0

  -- A prefix of the genuine entries is one of all.
  same_prefix : (n : ℕ) → n ≤ length found.genuine → take n entries ≡ take n found.genuine
  same_prefix n le = ap (take n) found.parts ∙ take-append-le n found.genuine found.others le

  prefix_steps : (n : ℕ) → n ≤ length found.genuine → take n steps_found ≡ entries_as_steps (take n entries)
  prefix_steps n le =
      take-map (λ (entry : ListEntry). OfEntry entry) n found.genuine
      ∙ ap (λ (l : List ListEntry). entries_as_steps l) (sym (same_prefix n le))

  prefix_size : (n : ℕ) → n ≤ length found.genuine → length (take n entries) ≡ n
  prefix_size n le =
      length-take-le n entries (omega (arith, le, ap (λ (l : List ListEntry). length l) found.parts, length-append found.genuine found.others))

  step_count : (n : ℕ) → n ≤ length found.genuine → length (entries_as_steps (take n entries)) ≡ n
  step_count n le = length-map (take n entries) (λ (entry : ListEntry). OfEntry entry) ∙ prefix_size n le

  prefix_genuine : (n : ℕ) → n ≤ length found.genuine → AreGenuine (take n entries)
  prefix_genuine n le = subst AreGenuine (sym (same_prefix n le)) (all_take IsGenuine n found.genuine found.are)

  prefix_parts : (n : ℕ) → BeginsWith bytes (take n entries) (list_spelling (drop n entries) ++ rest)
  prefix_parts n = record {
    are = all_take IsEntry n entries begins.are;
    parts = begins.parts
        ∙ ap (λ (l : List ListEntry). list_spelling l ++ rest) (sym (take-append-drop n entries))
        ∙ ap (λ (l : List ℕ). l ++ rest) (flat_map-append spelling (take n entries) (drop n entries))
        ∙ append_assoc (list_spelling (take n entries)) (list_spelling (drop n entries)) rest;
  }

  prefix_few : (n : ℕ) → length (list_spelling (take n entries)) < 2 ^ 64
  prefix_few n =
      let size = ap (λ (l : List ℕ). length l) (prefix_parts n).parts in
      omega (arith, few, size, length-append (list_spelling (take n entries)) (list_spelling (drop n entries) ++ rest))

  -- The checkpoint of a prefix that is found.
  abbrev prefix_checkpoint : (n : ℕ) (prefix : Prefix) → n ≤ length found.genuine → n ≡ 0 + 1 + prefix.last
      → IsPrefixAt (search_before known goal) 0 (entries_as_steps (take n entries)) prefix
      → IsCheckpoint (list_spelling (take n entries)) (checkpoint_at known replay prefix)
  prefix_checkpoint n prefix within last at =
      let listed = prefix_size n within in
      let all = ap (λ (l : List ListEntry). length l) found.parts in
      record {
        entries = take n entries;
        list_is = reading_to_the_end (list_spelling (take n entries)) (take n entries)
            (record { are = all_take IsEntry n entries begins.are; parts = sym (append-nil (list_spelling (take n entries))) });
        genuine = prefix_genuine n within;
        replayed = replayed_after known.before prefix.registers (take n entries) at.registers;
        count = omega (arith, last, listed, within, all, length-append found.genuine found.others, replays.count, counted);
        size = at.size ∙ sized (take n entries) 0 (omega (arith, prefix_few n)) ∙ omega arith;
        recorded = replays.recorded ∙ sym (recorded_take n entries (omega (arith, last)));
        told = replays.told ∙ sym (told_take n entries (omega (arith, last)));
        stray = ap (λ (s : Option Stray). stray_within s prefix.last) replays.stray ∙ stray_take n prefix.last entries (omega (arith, last));
      }

  module _ (algs : AlgSet) (events : List LogEvent) (firmware : IsFirmware algs events known.before) (good : Bool)
      (tells : good ≡ is_good (aggregate_under goal.rule algs events entries)) where
    -- Whether a prefix is confirmed.
    confirms_is : (n : ℕ) → known.entries ≤ n → n ≤ length found.genuine
        → is_confirmed (goal_data goal) algs events (take n entries) ≡ (good && test (take n steps_found))
    confirms_is zero enough le =
        confirmed_by algs events known.before firmware (goal_data goal) []
        ∙ ap (λ (b : Bool). b && is_met (goal_data goal) (values_after known.before [])) (none_good goal.rule algs events) ∙ sym (and-false good)
    confirms_is (suc k) enough le =
        let steps = entries_as_steps (take (suc k) entries) in
        let tested : test (take (suc k) steps_found) ≡ is_met (goal_data goal) (values_after known.before steps) =
        ap test (prefix_steps (suc k) le) ∙ rw (late (known.entries - 1) 0 (length steps) (omega (arith, step_count (suc k) le, enough))) refl in
        let recorded = recorded_take (suc k) entries (omega arith) in
        let told = told_take (suc k) entries (omega arith) in
        confirmed_by algs events known.before firmware (goal_data goal) (take (suc k) entries)
        ∙ (λ i. is_good (aggregate_with goal.rule algs events (recorded i) (told i)) && is_met (goal_data goal) (values_after known.before steps))
        ∙ ap (λ (b : Bool). b && is_met (goal_data goal) (values_after known.before steps)) (sym tells) ∙ ap (λ (b : Bool). good && b) (sym tested)

    prefix_confirmed : (steps : List Step) (prefix : Prefix) → TellsLeast test steps_found (Some steps)
        → IsPrefixAt (search_before known goal) 0 steps prefix → good ≡ true
        → IsConfirmedAt algs events (goal_data goal) known bytes entries (checkpoint_at known replay prefix)
    prefix_confirmed steps prefix least at yes_is =
        let n = length steps in
        let size = ap (λ (l : List Step). length l) least.0 in
        let within : n ≤ length found.genuine =
        omega (arith, size, length-take n steps_found, length-map found.genuine (λ (entry : ListEntry). OfEntry entry)) in
        let listed = prefix_size n within in
        let enough : known.entries ≤ n = elim (leb_tells known.entries n) [
          | inl le ↦ le.1
          | inr gt ↦ let less = gt.1 in absurd (two_ways (test steps) least.1 (rw (early (known.entries - 1) 0 n (omega (arith, less))) refl))
        ] in
        record {
          prefix = take n entries;
          rest = list_spelling (drop n entries) ++ rest;
          begins = prefix_parts n;
          first = ap (λ (m : ℕ). take m entries) listed;
          confirmed = record {
            genuine = prefix_genuine n within;
            enough = omega (arith, enough, listed);
            is_match = confirms_is n enough within ∙ ap (λ (l : List Step). good && test l) (sym least.0) ∙ (λ i. yes_is i && least.1 i);
            shortest = λ m more lt.
                ap (λ (l : List ListEntry). is_confirmed (goal_data goal) algs events l) (take-take m n entries (omega (arith, lt, listed)))
                ∙ confirms_is m more (omega (arith, lt, listed, within)) ∙ ap (λ (b : Bool). good && b) (least.2 m (omega (arith, lt, listed))) ∙ and-false good;
          };
          checkpoint = prefix_checkpoint n prefix within (sym (steps_back 0 n) ∙ ap (steps_to 0) at.position)
              (subst (λ (l : List Step). IsPrefixAt (search_before known goal) 0 l prefix) (least.0 ∙ prefix_steps n within) at);
          same = refl;
          before = refl;
        }

    pub prefix_is : FindsPrefix algs events (goal_data goal) known bytes entries (prefix_after good known replay)
    prefix_is = by (least_prefix test steps_found) replay.tracker.prefix (least_tells test steps_found) found.after.prefix
      where
        by_good : (b : Bool) (steps : List Step) (prefix : Prefix) → TellsLeast test steps_found (Some steps) → IsPrefixAt (search_before known goal) 0 steps prefix
            → good ≡ b → FindsPrefix algs events (goal_data goal) known bytes entries (cond b (Some (checkpoint_at known replay prefix)) None)
        by_good true steps prefix least at is = prefix_confirmed steps prefix least at is
        by_good false _ prefix least at is = λ n enough le are.
            confirms_is n enough (found.most n le are) ∙ ap (λ (b : Bool). b && test (take n steps_found)) is

        by : (least : Option (List Step)) (prefix : Option Prefix) → TellsLeast test steps_found least → PrefixIs (search_before known goal) 0 least prefix
            → FindsPrefix algs events (goal_data goal) known bytes entries (prefix_with good known replay prefix)
        by (Some steps) (Some prefix) least at = by_good good steps prefix least at refl
        by (Some _) None least at = absurd at
        by None (Some prefix) none at = absurd at
        by None None none at = λ n enough le are.
            confirms_is n enough (found.most n le are) ∙ ap (λ (b : Bool). good && b) (none n) ∙ and-false good

-- ---- what a search found

abbrev GoodOf : Checkpoint → AggregateRule → ListReplay Confirming → Option Checkpoint → Type 0
GoodOf known rule replay prefix =
    (algs : AlgSet) (events : List LogEvent) → IsFirmware algs events known.before
    → prefix ≡ prefix_after (is_good (aggregate_with rule algs events (option_map (λ digest. (alg_of digest, bytes_of digest)) replay.recorded)
    (option_map (λ digest. (alg_of digest, bytes_of digest)) replay.told))) known replay

module _ (known : Checkpoint) (goal : Goal) (list : List ℕ) (old new : Option (List ℕ)) (limit : ℕ) (replay : ListReplay Confirming)
    (prefix : Option Checkpoint) (is : IsCheckpoint list known) (room : known.bytes + limit < 2 ^ 64) (counted : replay.entries < 2 ^ 64)
    (good : GoodOf known goal.rule replay prefix) where
  pub few_bytes : (came over : List ℕ) → CameFrom old new limit came over → length (list ++ came) < 2 ^ 64
  few_bytes came over from = let within = from.within in omega (arith, room, is.size, within, length-append list came)

  pub finds : (bytes : List ℕ) (entries : List ListEntry) (rest : List ℕ) → BeginsWith bytes entries rest
      → Replays IsConfirmingAfter (search_before known goal) entries replay → length bytes < 2 ^ 64
      → (algs : AlgSet) (events : List LogEvent) → IsFirmware algs events known.before
      → FindsPrefix algs events (goal_data goal) known bytes entries prefix
  finds bytes entries rest begins replays few algs events firmware =
      rw (good algs events firmware) (prefix_is known goal bytes entries rest replay begins replays few counted algs events firmware _
      (λ i. is_good (aggregate_with goal.rule algs events (replays.recorded i) (replays.told i))))

  -- All that came is a list of genuine entries.
  abbrev pub searches_whole : ReplaysMore IsConfirmingAfter (search_before known goal) list old new limit replay
      → Searches known list old new limit (goal_data goal) (record { prefix = prefix; entries = replay.entries; whole = Ok (whole_after known replay) })
  searches_whole more =
      let all = more.all in
      let entries = all.entries in
      let after = all.tracked (search_before known goal) 0 [] refl (search_none known goal) in
      let few = few_bytes more.more [] more.came.came in
      let listed : length (list ++ more.more) ≡ length (list_spelling entries) =
      ap (λ (l : List ℕ). length l) (all.reading.begins.parts ∙ append-nil (list_spelling entries)) in
      let checkpoint : IsCheckpoint (list ++ more.more) (whole_after known replay) = record {
        entries = entries;
        list_is = all.reading;
        genuine = all.genuine;
        replayed = replayed_after known.before replay.tracker.banks entries after.banks;
        count = all.replays.count;
        size = after.bytes ∙ sized entries 0 (omega (arith, few, listed)) ∙ omega arith ∙ sym listed;
        recorded = all.replays.recorded;
        told = all.replays.told;
        stray = all.replays.stray;
      } in
      record {
        came = more.more;
        over = [];
        entries = entries;
        rest = [];
        came_is = more.came.came;
        begins = all.reading.begins;
        prefix = finds (list ++ more.more) entries [] all.reading.begins all.replays few;
        count = sym all.replays.count;
        wrong = (more.more, more.came, (entries, all.reading, all.genuine, all.replays.count));
        whole = (more.more, more.came, all.reading, checkpoint, refl);
      }

  -- Something is wrong with what came.
  abbrev pub searches_part : {W : Type 0} (IsAfter : After W) (before : List ListEntry) (watch now : W) (wrong : Unconfirmed)
      → IsMoreFault list old new limit (fault_in wrong)
      → StopsAt IsConfirmingAfter IsAfter (search_before known goal) list before watch old new limit replay now (fault_in wrong)
      → Searches known list old new limit (goal_data goal) (record { prefix = prefix; entries = replay.entries; whole = Err wrong })
  searches_part IsAfter before watch now (unconfirmed.List fault) why (came, over, from, number, (rest, stops, watches)) = record {
    came = came;
    over = over;
    entries = stops.entries;
    rest = rest;
    came_is = from;
    begins = stops.begins;
    prefix = finds (list ++ came) stops.entries rest stops.begins stops.replays (few_bytes came over from);
    count = sym stops.replays.count;
    wrong = (why, number);
    whole = tt;
  }
  searches_part IsAfter before watch now (unconfirmed.Replay fault) why (came, whole, forged, watches) = record {
    came = came;
    over = [];
    entries = forged.entries;
    rest = [];
    came_is = whole.came;
    begins = forged.reading.begins;
    prefix = finds (list ++ came) forged.entries [] forged.reading.begins forged.replays (few_bytes came [] whole.came);
    count = sym forged.replays.count;
    wrong = (came, whole, (forged.entries, forged.reading, forged.first, forged.replays.count));
    whole = (came, whole, forged.reading);
  }

  -- What had tracked the entries of the checkpoint's list has tracked those that came.
  module _ {W : Type 0} (IsAfter : After W) (start watch now : W) (before : List ListEntry) (tracked : AreTracked IsAfter start before watch) where
    pub watches_whole : (more : ReplaysMore IsConfirmingAfter (search_before known goal) list old new limit replay)
        → WatchesAll IsAfter before watch more.all.entries now
        → WatchesSearch IsAfter start known list old new limit (goal_data goal)
        (record { prefix = prefix; entries = replay.entries; whole = Ok (whole_after known replay) }) now
    watches_whole more watches =
        record { searches = searches_whole more; forged = None; watched = (more.all.genuine, watches start tracked) }

    pub watches_part : (wrong : Unconfirmed) → IsMoreFault list old new limit (fault_in wrong)
        → StopsAt IsConfirmingAfter IsAfter (search_before known goal) list before watch old new limit replay now (fault_in wrong)
        → WatchesSearch IsAfter start known list old new limit (goal_data goal)
        (record { prefix = prefix; entries = replay.entries; whole = Err wrong }) now
    watches_part (unconfirmed.List fault) why (came, over, from, number, (rest, stops, watches)) = record {
      searches = searches_part IsAfter before watch now (unconfirmed.List fault) why (came, over, from, number, (rest, stops, watches));
      forged = replay.forged;
      watched = watches start tracked;
    }
    watches_part (unconfirmed.Replay fault) why (came, whole, forged, watches) = record {
      searches = searches_part IsAfter before watch now (unconfirmed.Replay fault) why (came, whole, forged, watches);
      forged = replay.forged;
      watched = watches start tracked;
    }
