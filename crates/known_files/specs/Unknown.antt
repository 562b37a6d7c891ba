-- The entries of a list that are not known.
use Rattle.std.specs.Prelude.{◌≡◌, ◌⊎◌, ◌<◌, ℕ, ◌+◌, ◌&&◌, ◌==◌, nat_le, Bool, true, false, not, if◌then◌else◌, List, [], ◌∷◌, ◌++◌, length, drop, Option, None, Some, option_map}
use Rattle.ima_list.specs.Names.{ListEntry}
use Rattle.boot_verdict.specs.declared.steps.Position.{Position}
use Rattle.boot_verdict.specs.declared.steps.Position.TheVariants.{Reset, Event, Entry, Nowhere, Absent}
use Rattle.boot_verdict.specs.Names.{OfEntry, OfEvent, Step, position_after}
use Rattle.known_files.specs.declared.known.KnownFiles.{KnownFiles}
use Rattle.known_files.specs.declared.unknown.UnknownFiles.{UnknownFiles}
use Rattle.known_files.specs.declared.unknown.UnknownEntries.{UnknownEntries}
use Rattle.known_files.specs.EntryFiles.{is_aggregate, is_known}
use Rattle.known_files.specs.Known.{Knows}

-- Whether the entry of this number is the first, counted from 0, and one of the boot aggregate.
abbrev pub is_passed : ℕ → ListEntry → Bool
is_passed number entry = (number == 0) && is_aggregate entry

-- Whether the entry of this number is unknown.
abbrev pub is_unknown : List (List ℕ) → ℕ → ListEntry → Bool
is_unknown texts number entry = not (is_passed number entry) && not (is_known texts entry)

-- The number of this entry, if it is unknown.
abbrev pub unknown_at : List (List ℕ) → ℕ → ListEntry → List ℕ
unknown_at texts number entry = if is_unknown texts number entry then number ∷ [] else []

-- The numbers of the unknown entries, in order, where the first entry has this number.
abbrev pub unknown_in : List (List ℕ) → ℕ → List ListEntry → List ℕ
unknown_in texts number [] = []
unknown_in texts number (entry ∷ entries) = unknown_at texts number entry ++ unknown_in texts (number + 1) entries

-- These are the numbers of the unknown ones among the entries from number `first` on.
abbrev pub AreUnknown : List (List ℕ) → ℕ → List ListEntry → List ℕ → Type 0
AreUnknown texts first entries numbers = numbers ≡ unknown_in texts first (drop first entries)

-- There is an unknown one among them.
abbrev pub IsSomeUnknown : List (List ℕ) → ℕ → List ListEntry → Type 0
IsSomeUnknown texts first entries = 0 < length (unknown_in texts first (drop first entries))

-- No entry is told unknown; so it is where no files are known.
abbrev pub has_no_unknown : Option UnknownFiles → Bool
has_no_unknown None = true
has_no_unknown (Some unknown) = length unknown.numbers.items == 0

-- ---- as a list is read

-- The known files.
abbrev pub files_of : UnknownEntries → Option KnownFiles
files_of unknown = option_map (λ files. files.now) unknown.known

-- Nothing was looked at yet.
pub record IsFresh (known : Option KnownFiles) (first : ℕ) (unknown : UnknownEntries) : Type 0 where
  pub known_is : files_of unknown ≡ known
  pub first_is : unknown.first ≡ first
  pub none : unknown.numbers.items ≡ []
  pub whole : unknown.failed ≡ false

-- Whether the entry of this number is looked at, from number `first` on, and is unknown.
abbrev pub is_told : List (List ℕ) → ℕ → ℕ → ListEntry → Bool
is_told texts first number entry = nat_le first number && is_unknown texts number entry

-- What a step adds to the numbers.
abbrev pub told_by_step : List (List ℕ) → ℕ → Position → Step → List ℕ
told_by_step texts first position (OfEvent event) = []
told_by_step texts first (Entry number) (OfEntry entry) = if is_told texts first number entry then number ∷ [] else []
told_by_step texts first Reset (OfEntry entry) = []
told_by_step texts first (Event number) (OfEntry entry) = []
told_by_step texts first Nowhere (OfEntry entry) = []
told_by_step texts first Absent (OfEntry entry) = []

-- What these steps add, where the log has so many events, and so many steps were before.
abbrev pub told_by_steps : List (List ℕ) → ℕ → ℕ → ℕ → List Step → List ℕ
told_by_steps texts first events before [] = []
told_by_steps texts first events before (step ∷ steps) =
    told_by_step texts first (position_after events (before + 1)) step ++ told_by_steps texts first events (before + 1) steps

-- What came of adding these numbers: all were added; or memory ran out, which lasts, and fewer were.
abbrev pub HasAdded : UnknownEntries → List ℕ → UnknownEntries → Type 0
HasAdded old numbers new =
    ((new.numbers.items ≡ old.numbers.items ++ numbers) × (new.failed ≡ old.failed))
    ⊎ ((kept : List ℕ) × (length kept < length numbers) × (new.numbers.items ≡ old.numbers.items ++ kept) × (new.failed ≡ true))

-- These steps were looked at, and the numbers of the unknown ones among them were to be added: none without known files.
pub record IsLookedAfter (start : UnknownEntries) (events : ℕ) (steps : List Step) (now : UnknownEntries) : Type 0 where
  pub known_same : now.known ≡ start.known
  pub first_same : now.first ≡ start.first
  pub added : (texts : List (List ℕ)) (files : KnownFiles) → files_of start ≡ Some files → Knows texts files
      → HasAdded start (told_by_steps texts start.first events 0 steps) now
  pub idle : files_of start ≡ None → HasAdded start [] now
