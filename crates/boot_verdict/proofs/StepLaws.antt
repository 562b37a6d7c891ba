-- Steps: the registers after them, their least prefixes, and the positions that these lead to.
use Rattle.std.proofs.Common.{◌≡◌, ℕ, suc, zero, ◌+◌, ◌-◌, ◌<◌, Bool, true, false, cond, eqb, List, [], ◌∷◌, ◌++◌, length, map, take, Option, Some, None, option_map, refl, sym, ap, ◌∙◌, append_assoc, arith, inl, inr}
use Rattle.std.specs.Prelude.{filter, filter_map, find, fold}
use Rattle.std.specs.List.{cons_option}
use Rattle.std.specs.Option.{option_or}
use Rattle.std.proofs.lemmas.Bool.{cases_Bool, eqb-false, ne_eqb}
use Rattle.std.proofs.lemmas.Bool.Decides.{leb_tells}
use Rattle.std.proofs.lemmas.List.{length-append, length-map, map-append}
use Rattle.std.proofs.lemmas.List.Folds.{find-append}
use Rattle.std.proofs.lemmas.List.Sums.{fold-append}
use Rattle.pcr_banks.specs.declared.alg.Alg.{Alg}
use Rattle.pcr_banks.specs.declared.banks.Banks.{Banks}
use Rattle.pcr_banks.specs.Names.{digest_in, extended_by, extended_by_all, extended_value, value_at}
use Rattle.boot_log.specs.Names.{IsExtended, LogEvent, digests_for, is_extended_into, no_action}
use Rattle.boot_log.proofs.ListLaws.{find_map}
use Rattle.ima_list.specs.Names.{IsReplayed, ListEntry, bank_digest, digests_of}
use Rattle.boot_verdict.specs.declared.steps.Position.TheVariants.{Event, Entry}
use Rattle.boot_verdict.specs.Names.{AreAfter, AreTracked, BanksAfter, OfEntry, OfEvent, Step, digest_of_step, entries_as_steps, events_as_steps, least_prefix, position_after, prefixes, register_of, stepped, steps_of, value_after}

-- ---- registers

one_digest : (alg : Alg) (v : List ℕ) (digest : Option (List ℕ)) (rest : List (List ℕ))
    → extended_by_all alg (extended_by alg digest v) rest ≡ extended_by_all alg v (cons_option digest rest)
one_digest alg v None rest = refl
one_digest alg v (Some digest) rest = refl

event_by : (alg : Alg) (r : ℕ) (v : List ℕ) (event : LogEvent) (events : List LogEvent) (into : Bool)
    → ((w : List ℕ) → fold (stepped alg r) w (events_as_steps events) ≡ extended_by_all alg w (digests_for alg r events))
    → fold (stepped alg r) (extended_by alg (cond into (digest_in event.digests alg) None) v) (events_as_steps events)
    ≡ extended_by_all alg v (filter_map (λ event. digest_in event.digests alg) (cond into (event ∷ filter (is_extended_into r) events) (filter (is_extended_into r) events)))
event_by alg r v event events true rest =
    let digest = digest_in event.digests alg in
    rest (extended_by alg digest v) ∙ one_digest alg v digest (digests_for alg r events)
event_by alg r v event events false rest = rest v

pub events_value : (alg : Alg) (r : ℕ) (v : List ℕ) (events : List LogEvent)
    → fold (stepped alg r) v (events_as_steps events) ≡ extended_by_all alg v (digests_for alg r events)
events_value alg r v [] = refl
events_value alg r v (event ∷ events) = event_by alg r v event events (is_extended_into r event) (λ w. events_value alg r w events)

entry_by : (alg : Alg) (r : ℕ) (v : List ℕ) (entry : ListEntry) (entries : List ListEntry) (same : Bool)
    → ((w : List ℕ) → fold (stepped alg r) w (entries_as_steps entries) ≡ extended_by_all alg w (digests_of entries alg r))
    → fold (stepped alg r) (extended_by alg (cond same (Some (bank_digest entry alg)) None) v) (entries_as_steps entries)
    ≡ extended_by_all alg v (map (λ entry. bank_digest entry alg) (cond same (entry ∷ filter (λ entry. eqb entry.register r) entries) (filter (λ entry. eqb entry.register r) entries)))
entry_by alg r v entry entries true rest = rest (extended_value alg v (bank_digest entry alg))
entry_by alg r v entry entries false rest = rest v

pub entries_value : (alg : Alg) (r : ℕ) (v : List ℕ) (entries : List ListEntry)
    → fold (stepped alg r) v (entries_as_steps entries) ≡ extended_by_all alg v (digests_of entries alg r)
entries_value alg r v [] = refl
entries_value alg r v (entry ∷ entries) = entry_by alg r v entry entries (eqb entry.register r) (λ w. entries_value alg r w entries)

pub steps_value : (alg : Alg) (r : ℕ) (v : List ℕ) (events : List LogEvent) (entries : List ListEntry)
    → fold (stepped alg r) v (steps_of events entries)
    ≡ extended_by_all alg (extended_by_all alg v (digests_for alg r events)) (digests_of entries alg r)
steps_value alg r v events entries =
    fold-append (stepped alg r) v (events_as_steps events) (entries_as_steps entries)
    ∙ ap (λ (w : List ℕ). fold (stepped alg r) w (entries_as_steps entries)) (events_value alg r v events)
    ∙ entries_value alg r (extended_by_all alg v (digests_for alg r events)) entries

-- A step of another register extends nothing.
nothing_for : (alg : Alg) (r : ℕ) (step : Step) → eqb r (register_of step) ≡ false → digest_of_step alg r step ≡ None
nothing_for alg r (OfEvent event) other =
    let apart : eqb event.register r ≡ false = ne_eqb event.register r (λ same. eqb-false r event.register other (sym same)) in
    elim (cases_Bool (eqb event.kind no_action)) [
      | inl quiet ↦ rw quiet refl
      | inr loud ↦ rw (loud, apart) refl
    ]
nothing_for alg r (OfEntry entry) other =
    let apart : eqb entry.register r ≡ false = ne_eqb entry.register r (λ same. eqb-false r entry.register other (sym same)) in
    rw apart refl

pub value_quiet : (alg : Alg) (r : ℕ) (v : List ℕ) (steps : List Step) (step : Step) → eqb r (register_of step) ≡ false
    → fold (stepped alg r) v (steps ++ step ∷ []) ≡ fold (stepped alg r) v steps
value_quiet alg r v steps step other = fold-append (stepped alg r) v steps (step ∷ []) ∙ rw (nothing_for alg r step other) refl

pub value_joined : (alg : Alg) (r : ℕ) (start : Option (List ℕ)) (before after : List Step)
    → value_after alg r (value_after alg r start before) after ≡ value_after alg r start (before ++ after)
value_joined alg r None before after = refl
value_joined alg r (Some v) before after = ap (λ (w : List ℕ). Some w) (sym (fold-append (stepped alg r) v before after))

pub value_same : (value : Option (List ℕ)) → value ≡ option_map (λ bytes. bytes) value
value_same None = refl
value_same (Some bytes) = refl

-- Functions with the same values are the same.
pub fun_same : {A B : Type 0} (f g : A → B) → ((x : A) → f x ≡ g x) → f ≡ g
fun_same f g same = λ i x. same x i

-- ---- banks

pub none_taken : (banks : Banks) → AreAfter banks [] banks
none_taken banks = record { active = λ a. refl; values = λ a r. value_same (value_at banks a r) }

pub banks_joined : (start old new : Banks) (before after : List Step) → AreAfter start before old → AreAfter old after new → AreAfter start (before ++ after) new
banks_joined start old new before after earlier more = record {
  active = λ a. more.active a ∙ earlier.active a;
  values = λ a r. more.values a r ∙ ap (λ (v : Option (List ℕ)). value_after a r v after) (earlier.values a r)
      ∙ value_joined a r (value_at start a r) before after;
}

events_after : (start now : Banks) (events : List LogEvent) → IsExtended start events now → AreAfter start (events_as_steps events) now
events_after start now events extended = record {
  active = extended.active;
  values = λ a r. extended.values a r ∙ ap (λ (f : List ℕ → List ℕ). option_map f (value_at start a r)) (fun_same _ _ (λ v. sym (events_value a r v events)));
}

entries_after : (start now : Banks) (entries : List ListEntry) → IsReplayed start entries now → AreAfter start (entries_as_steps entries) now
entries_after start now entries replayed = record {
  active = replayed.active;
  values = λ a r. replayed.values a r ∙ ap (λ (f : List ℕ → List ℕ). option_map f (value_at start a r)) (fun_same _ _ (λ v. sym (entries_value a r v entries)));
}

pub event_taken : (old new : Banks) (event : LogEvent)
    → ((start : Banks) (events : List LogEvent) → IsExtended start events old → IsExtended start (events ++ event ∷ []) new)
    → AreAfter old (OfEvent event ∷ []) new
event_taken old new event replays =
    events_after old new (event ∷ []) (replays old [] (record { active = λ a. refl; values = λ a r. value_same (value_at old a r) }))

pub entry_taken : (old new : Banks) (entry : ListEntry)
    → ((start : Banks) (entries : List ListEntry) → IsReplayed start entries old → IsReplayed start (entries ++ entry ∷ []) new)
    → AreAfter old (OfEntry entry ∷ []) new
entry_taken old new entry replays =
    entries_after old new (entry ∷ []) (replays old [] (record { active = λ a. refl; values = λ a r. value_same (value_at old a r) }))

-- Banks after the entries of a list are its replay.
pub replayed_after : (start now : Banks) (entries : List ListEntry) → AreAfter start (entries_as_steps entries) now → IsReplayed start entries now
replayed_after start now entries after = record {
  active = after.active;
  values = λ a r. after.values a r ∙ ap (λ (f : List ℕ → List ℕ). option_map f (value_at start a r)) (fun_same _ _ (λ v. entries_value a r v entries));
}

-- The replay of a list follows it.
pub followed_by : (start now : Banks) (entries : List ListEntry) → IsReplayed start entries now → AreTracked BanksAfter start entries now
followed_by start now entries replayed = λ origin events log size after.
    banks_joined origin start now log (entries_as_steps entries) after (entries_after start now entries replayed)

-- ---- prefixes

prefixes_more : (steps : List Step) (step : Step) → prefixes (steps ++ step ∷ []) ≡ prefixes steps ++ (steps ++ step ∷ []) ∷ []
prefixes_more [] step = refl
prefixes_more (first ∷ steps) step =
    ap (λ (l : List (List Step)). [] ∷ map (λ prefix. first ∷ prefix) l) (prefixes_more steps step)
    ∙ ap (λ (l : List (List Step)). [] ∷ l) (map-append (λ (prefix : List Step). first ∷ prefix) (prefixes steps) ((steps ++ step ∷ []) ∷ []))

-- The least prefix, or all steps if there was none.
abbrev pub or_all : Option (List Step) → List Step → Bool → Option (List Step)
or_all found steps passes = option_or found (cond passes (Some steps) None)

pub least_more : (test : List Step → Bool) (steps : List Step) (step : Step)
    → least_prefix test (steps ++ step ∷ []) ≡ or_all (least_prefix test steps) (steps ++ step ∷ []) (test (steps ++ step ∷ []))
least_more test steps step =
    ap (find test) (prefixes_more steps step) ∙ find-append test (prefixes steps) ((steps ++ step ∷ []) ∷ [])

-- What the least prefix of the steps tells.
abbrev pub TellsLeast : (List Step → Bool) → List Step → Option (List Step) → Type 0
TellsLeast test steps None = (n : ℕ) → test (take n steps) ≡ false
TellsLeast test steps (Some prefix) =
    (prefix ≡ take (length prefix) steps) × (test prefix ≡ true) × ((n : ℕ) → n < length prefix → test (take n steps) ≡ false)

-- The first step before each.
least_within : (test : List Step → Bool) (step : Step) (steps : List Step) (found : Option (List Step)) → test [] ≡ false
    → TellsLeast (λ prefix. test (step ∷ prefix)) steps found → TellsLeast test (step ∷ steps) (option_map (λ prefix. step ∷ prefix) found)
least_within test step steps None fails tells = by
  where
    by : (n : ℕ) → test (take n (step ∷ steps)) ≡ false
    by zero = fails
    by (suc n) = tells n
least_within test step steps (Some prefix) fails tells = (ap (λ (l : List Step). step ∷ l) tells.0, tells.1, by)
  where
    by : (n : ℕ) → n < length (step ∷ prefix) → test (take n (step ∷ steps)) ≡ false
    by zero lt = fails
    by (suc n) lt = tells.2 n (omega (arith, lt))

nothing_taken : (test : List Step → Bool) → test [] ≡ false → (n : ℕ) → test (take n []) ≡ false
nothing_taken test fails zero = fails
nothing_taken test fails (suc n) = fails

pub least_tells : (test : List Step → Bool) (steps : List Step) → TellsLeast test steps (least_prefix test steps)
least_tells test [] = elim (cases_Bool (test [])) [
  | inl passes ↦ rw passes (refl, passes, λ n lt. absurd (omega (arith, lt)))
  | inr fails ↦ rw fails (nothing_taken test fails)
]
least_tells test (step ∷ steps) = elim (cases_Bool (test [])) [
  | inl passes ↦ rw passes (refl, passes, λ n lt. absurd (omega (arith, lt)))
  | inr fails ↦ rw (fails, find_map test (λ prefix. step ∷ prefix) (prefixes steps))
      (least_within test step steps (least_prefix (λ prefix. test (step ∷ prefix)) steps) fails (least_tells (λ prefix. test (step ∷ prefix)) steps))
]

-- ---- the positions of steps in turn

pub event_position : (events i : ℕ) (before : List Step) → i ≡ length before → i < events → Event (i + 1) ≡ position_after events (length before + 1)
event_position events i before at within = elim (leb_tells (length before + 1) events) [
  | inl le ↦
      let some : eqb (length before + 1) 0 ≡ false = ne_eqb (length before + 1) 0 (λ e. absurd (omega (arith, e))) in
      rw (some, le.0) (ap (λ (n : ℕ). Event (n + 1)) at)
  | inr gt ↦ let more = gt.1 in absurd (omega (arith, more, at, within))
]

pub entries_joined : (log : List Step) (entries : List ListEntry) (entry : ListEntry)
    → (log ++ entries_as_steps entries) ++ OfEntry entry ∷ [] ≡ log ++ entries_as_steps (entries ++ entry ∷ [])
entries_joined log entries entry =
    append_assoc log (entries_as_steps entries) (OfEntry entry ∷ [])
    ∙ ap (λ (l : List Step). log ++ l) (sym (map-append (λ (entry : ListEntry). OfEntry entry) entries (entry ∷ [])))

pub events_joined : (events : List LogEvent) (event : LogEvent)
    → events_as_steps events ++ OfEvent event ∷ [] ≡ events_as_steps (events ++ event ∷ [])
events_joined events event = sym (map-append (λ (event : LogEvent). OfEvent event) events (event ∷ []))

pub position_of_entry : (events n last : ℕ) → n ≡ events + 1 + last → position_after events n ≡ Entry last
position_of_entry events n last is = elim (leb_tells n events) [
  | inl le ↦ let few = le.1 in absurd (omega (arith, few, is))
  | inr gt ↦
      let some : eqb n 0 ≡ false = ne_eqb n 0 (λ e. absurd (omega (arith, e, is))) in
      let left : n - events - 1 ≡ last = omega (arith, is) in
      rw (some, gt.0, left) refl
]

pub entry_position : (log : List Step) (entries : List ListEntry) (events j : ℕ) → events ≡ length log → j ≡ length entries
    → Entry j ≡ position_after events (length (log ++ entries_as_steps entries) + 1)
entry_position log entries events j size at =
    sym (position_of_entry events (length (log ++ entries_as_steps entries) + 1) j
    (omega (arith, size, at, length-append log (entries_as_steps entries), length-map entries (λ (entry : ListEntry). OfEntry entry))))
