-- The search for the confirmed prefix, step by step.
use Rattle.std.specs.Prelude.{◌≡◌, ℕ, ◌+◌, ◌-◌, ◌^◌, min, nat_le, ◌==◌, ◌&&◌, Bool, false, if◌then◌else◌, List, length, fold, Option, Some, None}
use Rattle.pcr_banks.specs.declared.banks.Banks.{Banks}
use Rattle.pcr_banks.specs.Names.{value_at}
use Rattle.ima_list.specs.Names.{spelling}
use Rattle.boot_verdict.specs.declared.checkpoint.Checkpoint.{Checkpoint}
use Rattle.tpm_quotes.specs.Quoting.{Values}
use Rattle.growing_lists.specs.declared.confirmation.Goal.{Goal}
use Rattle.growing_lists.specs.declared.confirmation.Confirming.{Confirming}
use Rattle.growing_lists.specs.declared.confirmation.Prefix.{Prefix}
use Rattle.boot_verdict.specs.declared.steps.Position.{Position}
use Rattle.boot_verdict.specs.declared.steps.Position.TheVariants.{Reset, Event, Entry, Nowhere, Absent}
use Rattle.boot_verdict.specs.Names.{AreAfter, OfEntry, OfEvent, Step, least_prefix, position_after, value_after}
use Rattle.growing_lists.specs.Goals.{goal_data, is_met}

-- The values after these steps.
abbrev pub values_after : Banks → List Step → Values
values_after start steps alg register = value_after alg register (value_at start alg register) steps

-- How many bytes a step has in the list.
abbrev pub size_of_step : Step → ℕ
size_of_step (OfEvent event) = 0
size_of_step (OfEntry entry) = length (spelling entry)

-- One step more, as far as 64 bits count.
abbrev pub size_more : ℕ → Step → ℕ
size_more size step = min (size + size_of_step step) (2 ^ 64 - 1)

abbrev pub size_after : ℕ → List Step → ℕ
size_after size steps = fold size_more size steps

-- Whether this is the position of an entry that may be the last of a prefix; `first` is the number of the first such.
abbrev pub is_late : ℕ → Position → Bool
is_late first (Entry last) = nat_le first last
is_late first Reset = false
is_late first (Event number) = false
is_late first Nowhere = false
is_late first Absent = false

-- The prefix that ends at this position, if it may, and the registers are as is sought now.
abbrev pub prefix_at : Confirming → Position → Option Prefix
prefix_at confirming (Entry last) =
    if nat_le confirming.first last && is_met (goal_data confirming.goal) (value_at confirming.banks)
    then Some (record { registers = confirming.banks; last = last; bytes = confirming.bytes }) else None
prefix_at confirming Reset = None
prefix_at confirming (Event number) = None
prefix_at confirming Nowhere = None
prefix_at confirming Absent = None

-- Whether a prefix of the steps is one that is searched for.
abbrev pub confirms : Confirming → ℕ → List Step → Bool
confirms start events prefix = is_late start.first (position_after events (length prefix)) && is_met (goal_data start.goal) (values_after start.banks prefix)

-- The prefix is that of these steps.
pub record IsPrefixAt (start : Confirming) (events : ℕ) (steps : List Step) (prefix : Prefix) : Type 0 where
  pub position : position_after events (length steps) ≡ Entry prefix.last
  pub registers : AreAfter start.banks steps prefix.registers
  pub size : prefix.bytes ≡ size_after start.bytes steps

-- The prefix is that of the least steps that were searched for, if there are some.
abbrev pub PrefixIs : Confirming → ℕ → Option (List Step) → Option Prefix → Type 0
PrefixIs start events None None = Unit {0}
PrefixIs start events None (Some prefix) = ⊥
PrefixIs start events (Some steps) None = ⊥
PrefixIs start events (Some steps) (Some prefix) = IsPrefixAt start events steps prefix

-- The search is after these steps, where the log has so many events.
pub record IsConfirmingAfter (start : Confirming) (events : ℕ) (steps : List Step) (now : Confirming) : Type 0 where
  pub banks : AreAfter start.banks steps now.banks
  pub bytes : now.bytes ≡ size_after start.bytes steps
  pub first : now.first ≡ start.first
  pub goal : now.goal ≡ start.goal
  pub prefix : PrefixIs start events (least_prefix (confirms start events) steps) now.prefix

-- The search after the list of this checkpoint, whose end may be the prefix.
abbrev pub search_after : Checkpoint → Goal → Confirming
search_after known goal = record {
  banks = known.after;
  bytes = known.bytes;
  first = known.entries - 1;
  goal = goal;
  prefix = if known.entries == 0 then None
      else prefix_at (record { banks = known.after; bytes = known.bytes; first = known.entries - 1; goal = goal; prefix = None })
      (Entry (known.entries - 1));
}

-- The search before that list's first entry.
abbrev pub search_before : Checkpoint → Goal → Confirming
search_before known goal =
    record { banks = known.before; bytes = 0; first = known.entries - 1; goal = goal; prefix = None }
