-- What is told of entries as a list is replayed.
use Rattle.std.proofs.Common.{◌≡◌, ℕ, zero, suc, ◌+◌, ◌-◌, ◌<◌, ◌≤◌, Bool, true, false, List, [], ◌∷◌, ◌++◌, length, take, drop, Option, None, Some, refl, sym, ap, ◌∙◌, arith, append_assoc, append-nil, inl, inr, length-append, subst}
use Rattle.std.specs.Prelude.{if◌then◌else◌, ◌&&◌, nat_lt, option_map}
use Rattle.std.specs.Borrow.{Bor}
use Rattle.std.specs.List.{filter}
use Rattle.std.proofs.lemmas.Bool.{cases_lt, le-leb, le-ltb, lt-leb, lt-ltb}
use Rattle.std.proofs.lemmas.List.Elements.{filter-append}
use Rattle.ima_list.specs.Names.{ListEntry}
use Rattle.boot_verdict.specs.declared.steps.Position.{Position}
use Rattle.boot_verdict.specs.declared.steps.Position.TheVariants.{Absent, Entry, Event, Nowhere, Reset}
use Rattle.boot_verdict.specs.Names.{AreTracked, OfEntry, OfEvent, Step, entries_as_steps, position_after}
use Rattle.boot_verdict.proofs.StepLaws.{position_of_entry}
use Rattle.known_files.specs.declared.known.KnownFiles.{KnownFiles}
use Rattle.known_files.specs.declared.unknown.UnknownEntries.{UnknownEntries}
use Rattle.known_files.specs.Known.{Knows}
use Rattle.known_files.specs.Unknown.{AreUnknown, HasAdded, IsFresh, IsLookedAfter, IsSomeUnknown, files_of, is_told, is_unknown, told_by_step, told_by_steps, unknown_at, unknown_in}

-- ---- one step after others

module _ (texts : List (List ℕ)) (first events : ℕ) where
  told_joined : (before : ℕ) (steps more : List Step) → told_by_steps texts first events before (steps ++ more)
      ≡ told_by_steps texts first events before steps ++ told_by_steps texts first events (before + length steps) more
  told_joined before [] more = ap (λ n. told_by_steps texts first events n more) (omega arith)
  told_joined before (step ∷ steps) more =
      let here = told_by_step texts first (position_after events (before + 1)) step in
      ap (λ l. here ++ l) (told_joined (before + 1) steps more
      ∙ ap (λ n. told_by_steps texts first events (before + 1) steps ++ told_by_steps texts first events n more) (omega arith))
      ∙ sym (append_assoc here (told_by_steps texts first events (before + 1) steps)
      (told_by_steps texts first events (before + length (step ∷ steps)) more))

  told_next : (steps : List Step) (step : Step) → told_by_steps texts first events 0 (steps ++ step ∷ [])
      ≡ told_by_steps texts first events 0 steps ++ told_by_step texts first (position_after events (length steps + 1)) step
  told_next steps step =
      let size : 0 + length steps ≡ length steps = omega arith in
      told_joined 0 steps (step ∷ [])
      ∙ ap (λ n. told_by_steps texts first events 0 steps ++ told_by_steps texts first events n (step ∷ [])) size
      ∙ ap (λ l. told_by_steps texts first events 0 steps ++ l) (append-nil (told_by_step texts first (position_after events (length steps + 1)) step))

-- ---- what is added

-- Nothing is.
pub none_added : (now : UnknownEntries) → HasAdded now [] now
none_added now = inl (sym (append-nil now.numbers.items), refl)

-- These, and then more.
added_joined : (start old new : UnknownEntries) (numbers more : List ℕ) → HasAdded start numbers old → HasAdded old more new
    → HasAdded start (numbers ++ more) new
added_joined start old new numbers more (inl all) (inl next) =
    inl (next.0 ∙ ap (λ l. l ++ more) all.0 ∙ append_assoc start.numbers.items numbers more, next.1 ∙ all.1)
added_joined start old new numbers more (inl all) (inr (kept, fewer, items, failed)) =
    inr (
      numbers ++ kept,
      omega (arith, fewer, length-append numbers kept, length-append numbers more),
      items ∙ ap (λ l. l ++ kept) all.0 ∙ append_assoc start.numbers.items numbers kept,
      failed,
    )
added_joined start old new numbers more (inr (kept, fewer, items, failed)) (inl next) =
    inr (
      kept ++ more,
      omega (arith, fewer, length-append kept more, length-append numbers more),
      next.0 ∙ ap (λ l. l ++ more) items ∙ append_assoc start.numbers.items kept more,
      next.1 ∙ failed,
    )
added_joined start old new numbers more (inr (kept, fewer, items, failed)) (inr (later, less, now, lost)) =
    inr (
      kept ++ later,
      omega (arith, fewer, less, length-append kept later, length-append numbers more),
      now ∙ ap (λ l. l ++ later) items ∙ append_assoc start.numbers.items kept later,
      lost,
    )

pub looked_next : (start : UnknownEntries) (events : ℕ) (before : List Step) (step : Step) (old new : UnknownEntries) (position : Position)
    → position ≡ position_after events (length before + 1) → new.known ≡ old.known → new.first ≡ old.first
    → ((texts : List (List ℕ)) (files : KnownFiles) → files_of old ≡ Some files → Knows texts files
    → HasAdded old (told_by_step texts old.first position step) new)
    → (files_of old ≡ None → HasAdded old [] new)
    → IsLookedAfter start events before old → IsLookedAfter start events (before ++ step ∷ []) new
looked_next start events before step old new position at same_known same_first adds idles looked = record {
  known_same = same_known ∙ looked.known_same;
  first_same = same_first ∙ looked.first_same;
  added = λ texts files has knows.
      let same : told_by_step texts old.first position step ≡ told_by_step texts start.first (position_after events (length before + 1)) step =
      ap (λ n. told_by_step texts n position step) looked.first_same ∙ ap (λ p. told_by_step texts start.first p step) at in
      let here = adds texts files (ap (option_map (λ files. files.now)) looked.known_same ∙ has) knows in
      subst (λ numbers. HasAdded start numbers new) (sym (told_next texts start.first events before step))
      (added_joined start old new (told_by_steps texts start.first events 0 before)
      (told_by_step texts start.first (position_after events (length before + 1)) step) (looked.added texts files has knows)
      (subst (λ numbers. HasAdded old numbers new) same here));
  idle = λ none.
      added_joined start old new [] [] (looked.idle none) (idles (ap (option_map (λ files. files.now)) looked.known_same ∙ none));
}

-- A step to a position that is not an entry's adds nothing.
pub told_nowhere : (texts : List (List ℕ)) (first : ℕ) (position : Position) (step : Step) → ((number : ℕ) → position ≡ Entry number → ⊥)
    → told_by_step texts first position step ≡ []
told_nowhere texts first position (OfEvent event) none = refl
told_nowhere texts first Reset (OfEntry entry) none = refl
told_nowhere texts first (Event number) (OfEntry entry) none = refl
told_nowhere texts first (Entry number) (OfEntry entry) none = absurd (none number refl)
told_nowhere texts first Nowhere (OfEntry entry) none = refl
told_nowhere texts first Absent (OfEntry entry) none = refl

pub not_both : {A : Type 0} (one : Option A) (value : A) → one ≡ None → one ≡ Some value → ⊥
not_both one value none some = let e : None ≡ Some value = sym none ∙ some in absurd cc

pub not_so : {b : Bool} → b ≡ false → b ≡ true → ⊥
not_so is isnt = let e : false ≡ true = sym is ∙ isnt in absurd cc

pub files_none : (unknown : UnknownEntries) → unknown.known ≡ None → files_of unknown ≡ None
files_none unknown none = ap (option_map (λ files. files.now)) none

pub files_some : (unknown : UnknownEntries) (files : Bor KnownFiles) → unknown.known ≡ Some files → files_of unknown ≡ Some files.now
files_some unknown files some = ap (option_map (λ files. files.now)) some

-- ---- entries

-- The numbers that are told of these entries, from this number on.
abbrev told_of_entries : List (List ℕ) → ℕ → ℕ → List ListEntry → List ℕ
told_of_entries texts first number [] = []
told_of_entries texts first number (entry ∷ entries) =
    (if is_told texts first number entry then number ∷ [] else []) ++ told_of_entries texts first (number + 1) entries

module _ (texts : List (List ℕ)) (first : ℕ) where
  as_entries : (events before number : ℕ) (entries : List ListEntry) → before ≡ events + number
      → told_by_steps texts first events before (entries_as_steps entries) ≡ told_of_entries texts first number entries
  as_entries events before number [] at = refl
  as_entries events before number (entry ∷ entries) at =
      ap (λ p. told_by_step texts first p (OfEntry entry) ++ told_by_steps texts first events (before + 1) (entries_as_steps entries))
      (position_of_entry events (before + 1) number (omega (arith, at)))
      ∙ ap (λ l. (if is_told texts first number entry then number ∷ [] else []) ++ l)
      (as_entries events (before + 1) (number + 1) entries (omega (arith, at)))

  told_early : (number : ℕ) (entry : ListEntry) → number < first → (if is_told texts first number entry then number ∷ [] else []) ≡ []
  told_early number entry early = ap (λ (b : Bool). if b && is_unknown texts number entry then number ∷ [] else []) (lt-leb first number early)

  none_early : (number : ℕ) (entries : List ListEntry) → number + length entries ≤ first → told_of_entries texts first number entries ≡ []
  none_early number [] early = refl
  none_early number (entry ∷ entries) early =
      ap (λ l. l ++ told_of_entries texts first (number + 1) entries) (told_early number entry (omega (arith, early)))
      ∙ none_early (number + 1) entries (omega (arith, early))

  -- Those before `first` add nothing.
  skipped : (skip number : ℕ) (entries : List ListEntry) → number + skip ≤ first
      → told_of_entries texts first number entries ≡ told_of_entries texts first (number + skip) (drop skip entries)
  skipped zero number entries within = ap (λ n. told_of_entries texts first n entries) (omega arith)
  skipped (suc skip) number [] within = refl
  skipped (suc skip) number (entry ∷ entries) within =
      ap (λ l. l ++ told_of_entries texts first (number + 1) entries) (told_early number entry (omega (arith, within)))
      ∙ skipped skip (number + 1) entries (omega (arith, within))
      ∙ ap (λ n. told_of_entries texts first n (drop skip entries)) (omega arith)

  all_later : (number : ℕ) (entries : List ListEntry) → first ≤ number
      → told_of_entries texts first number entries ≡ unknown_in texts number entries
  all_later number [] late = refl
  all_later number (entry ∷ entries) late =
      let same : is_told texts first number entry ≡ is_unknown texts number entry =
      ap (λ (b : Bool). b && is_unknown texts number entry) (le-leb first number late) in
      ap (λ (b : Bool). (if b then number ∷ [] else []) ++ told_of_entries texts first (number + 1) entries) same
      ∙ ap (λ l. unknown_at texts number entry ++ l) (all_later (number + 1) entries (omega (arith, late)))

  -- ---- the first entries of a list

  none_below : (count number : ℕ) (entries : List ListEntry) → count ≤ number
      → filter (λ n. nat_lt n count) (told_of_entries texts first number entries) ≡ []
  none_below count number [] over = refl
  none_below count number (entry ∷ entries) over =
      filter-append (λ n. nat_lt n count) (if is_told texts first number entry then number ∷ [] else []) (told_of_entries texts first (number + 1) entries)
      ∙ ap (λ l. l ++ filter (λ n. nat_lt n count) (told_of_entries texts first (number + 1) entries)) (not_here (is_told texts first number entry))
      ∙ none_below count (number + 1) entries (omega (arith, over))
    where
      not_here : (told : Bool) → filter (λ n. nat_lt n count) (if told then number ∷ [] else []) ≡ []
      not_here true = rw (le-ltb number count over) refl
      not_here false = refl

  told_below : (count number : ℕ) (entries : List ListEntry) → filter (λ n. nat_lt n count) (told_of_entries texts first number entries)
      ≡ told_of_entries texts first number (take (count - number) entries)
  told_below count number [] = elim (cases_lt number count) [
    | inl below ↦ none_taken (count - number)
    | inr over ↦ none_taken (count - number)
  ]
    where
      none_taken : (n : ℕ) → [] ≡ told_of_entries texts first number (take n [])
      none_taken zero = refl
      none_taken (suc n) = refl
  told_below count number (entry ∷ entries) = elim (cases_lt number count) [
    | inl below ↦
        filter-append (λ n. nat_lt n count) (if is_told texts first number entry then number ∷ [] else []) (told_of_entries texts first (number + 1) entries)
        ∙ ap (λ l. l ++ filter (λ n. nat_lt n count) (told_of_entries texts first (number + 1) entries)) (here below (is_told texts first number entry))
        ∙ ap (λ l. (if is_told texts first number entry then number ∷ [] else []) ++ l) (told_below count (number + 1) entries)
        ∙ ap (λ n. told_of_entries texts first number (take n (entry ∷ entries))) (one_more below)
    | inr over ↦
        let none : count - number ≡ 0 = omega (arith, over) in none_below count number (entry ∷ entries) over ∙ rw none refl
  ]
    where
      here : number < count → (told : Bool) → filter (λ n. nat_lt n count) (if told then number ∷ [] else []) ≡ (if told then number ∷ [] else [])
      here below true = rw (lt-ltb number count below) refl
      here below false = refl

      one_more : number < count → suc (count - (number + 1)) ≡ count - number
      one_more below = omega (arith, below)

-- From number `first` on, as the texts tell it.
told_is_unknown : (texts : List (List ℕ)) (first : ℕ) (entries : List ListEntry)
    → told_of_entries texts first 0 entries ≡ unknown_in texts first (drop first entries)
told_is_unknown texts first entries =
    let start : 0 + first ≡ first = omega arith in
    skipped texts first first 0 entries (omega arith) ∙ ap (λ k. told_of_entries texts first k (drop first entries)) start
    ∙ all_later texts first first (drop first entries) (omega arith)

-- ---- a whole watch

none_looked : (start : UnknownEntries) → IsLookedAfter start 0 [] start
none_looked start = record {
  known_same = refl;
  first_same = refl;
  added = λ texts files has knows. none_added start;
  idle = λ none. none_added start;
}

-- A fresh watch has looked at the entries before its first.
pub begins_after : (known : Option KnownFiles) (first : ℕ) (now : UnknownEntries) (entries : List ListEntry) → IsFresh known first now
    → length entries ≤ first → AreTracked IsLookedAfter now entries now
begins_after known first now entries fresh early = λ origin events log size looked. record {
  known_same = looked.known_same;
  first_same = looked.first_same;
  idle = looked.idle;
  added = λ texts files has knows.
      let from = origin.first in
      let late : 0 + length entries ≤ from = omega (arith, early, fresh.first_is, looked.first_same) in
      let none : told_by_steps texts from events (0 + length log) (entries_as_steps entries) ≡ [] =
      as_entries texts from events (0 + length log) 0 entries (omega (arith, size)) ∙ none_early texts from 0 entries late in
      subst (λ numbers. HasAdded origin numbers now) (sym (told_joined texts from events 0 log (entries_as_steps entries)
      ∙ ap (λ l. told_by_steps texts from events 0 log ++ l) none ∙ append-nil (told_by_steps texts from events 0 log)))
      (looked.added texts files has knows);
}

module _ (known : Option KnownFiles) (first : ℕ) (start now : UnknownEntries) (entries : List ListEntry) (fresh : IsFresh known first start)
    (tracked : AreTracked IsLookedAfter start entries now) where
  looked_all : IsLookedAfter start 0 (entries_as_steps entries) now
  looked_all = tracked start 0 [] refl (none_looked start)

  pub known_still : files_of now ≡ known
  known_still = ap (option_map (λ files. files.now)) looked_all.known_same ∙ fresh.known_is

  pub first_still : now.first ≡ first
  first_still = looked_all.first_same ∙ fresh.first_is

  told_all : (texts : List (List ℕ)) → told_by_steps texts start.first 0 0 (entries_as_steps entries) ≡ told_of_entries texts first 0 entries
  told_all texts =
      as_entries texts start.first 0 0 0 entries refl ∙ ap (λ n. told_of_entries texts n 0 entries) fresh.first_is

  module _ (files : KnownFiles) (texts : List (List ℕ)) (are : known ≡ Some files) (knows : Knows texts files) where
    added_all : HasAdded start (told_of_entries texts first 0 entries) now
    added_all =
        subst (λ numbers. HasAdded start numbers now) (told_all texts) (looked_all.added texts files (fresh.known_is ∙ are) knows)

    -- The numbers below a count are those of the first entries.
    pub unknown_below : (count : ℕ) → now.failed ≡ false → AreUnknown texts first (take count entries) (filter (λ n. nat_lt n count) now.numbers.items)
    unknown_below count kept = elim added_all [
      | inl all ↦
          let told : now.numbers.items ≡ told_of_entries texts first 0 entries =
          all.0 ∙ ap (λ l. l ++ told_of_entries texts first 0 entries) fresh.none in
          let size : count - 0 ≡ count = omega arith in
          ap (filter (λ n. nat_lt n count)) told ∙ told_below texts first count 0 entries
          ∙ ap (λ n. told_of_entries texts first 0 (take n entries)) size ∙ told_is_unknown texts first (take count entries)
      | inr (fewer, less, items, failed) ↦ absurd (not_so kept failed)
    ]

    -- Memory ran out only at an unknown entry.
    pub some_unknown : now.failed ≡ true → IsSomeUnknown texts first entries
    some_unknown failed = elim added_all [
      | inl all ↦ absurd (not_so (all.1 ∙ fresh.whole) failed)
      | inr (fewer, less, items, lost) ↦
          let same = ap length (told_is_unknown texts first entries) in omega (arith, less, same)
    ]

  pub none_lost : known ≡ None → now.failed ≡ true → ⊥
  none_lost none failed = elim (looked_all.idle (fresh.known_is ∙ none)) [
    | inl all ↦ not_so (all.1 ∙ fresh.whole) failed
    | inr (fewer, less, items, lost) ↦ omega (arith, less)
  ]
