-- What a search for the confirmed prefix found.
use Rattle.std.specs.Prelude.{◌≡◌, ℕ, ◌+◌, ◌-◌, ◌^◌, min, nat_le, Bool, if◌then◌else◌, List, ◌++◌, length, take, Option, Some, None, Result, Ok, Err}
use Rattle.pcr_banks.specs.declared.sets.AlgSet.{AlgSet}
use Rattle.boot_log.specs.Names.{IsFirmware, LogEvent}
use Rattle.ima_list.specs.Names.{BeginsWith, IsReading, ListEntry, list_spelling}
use Rattle.boot_verdict.specs.declared.checkpoint.Checkpoint.{Checkpoint}
use Rattle.growing_lists.specs.declared.confirmation.Search.{Search}
use Rattle.boot_verdict.specs.declared.isolation.Stray.{Stray}
use Rattle.boot_verdict.specs.declared.report.Unconfirmed.{Unconfirmed}
use Rattle.boot_verdict.specs.declared.report.Unconfirmed.TheVariants as unconfirmed
use Rattle.growing_lists.specs.declared.confirmation.Confirming.{Confirming}
use Rattle.growing_lists.specs.declared.confirmation.Prefix.{Prefix}
use Rattle.boot_verdict.specs.declared.list_replay.ListReplay.{ListReplay}
use Rattle.boot_verdict.specs.declared.verifier.VerifyFault.{VerifyFault}
use Rattle.boot_verdict.specs.declared.verifier.VerifyFault.TheVariants as faults
use Rattle.boot_verdict.specs.Names.{After, CameFrom, CameWhole, IsCheckpoint, IsReplayedOrForged}
use Rattle.growing_lists.specs.Goals.{GoalData}
use Rattle.growing_lists.specs.Prefixes.{AreUnconfirmed, CameWrong, IsConfirmed, IsUnconfirmedFault}

-- The checkpoint of a confirmed prefix of these bytes and of these entries.
pub record IsConfirmedAt (algs : AlgSet) (events : List LogEvent) (goal : GoalData) (known : Checkpoint) (bytes : List ℕ) (entries : List ListEntry) (at : Checkpoint)
    : Type 0 where
  pub prefix : List ListEntry
  pub rest : List ℕ
  pub begins : BeginsWith bytes prefix rest
  pub first : take (length prefix) entries ≡ prefix
  pub confirmed : IsConfirmed algs events goal known.entries prefix
  pub checkpoint : IsCheckpoint (list_spelling prefix) at
  pub same : checkpoint.entries ≡ prefix
  pub before : at.before ≡ known.before

-- The confirmed prefix of these entries, with which the bytes begin, or none.
abbrev pub FindsPrefix : AlgSet → List LogEvent → GoalData → Checkpoint → List ℕ → List ListEntry → Option Checkpoint → Type 0
FindsPrefix algs events goal known bytes entries None = AreUnconfirmed algs events goal known.entries entries
FindsPrefix algs events goal known bytes entries (Some at) = IsConfirmedAt algs events goal known bytes entries at

abbrev pub wrong_with : Result Checkpoint Unconfirmed → Option Unconfirmed
wrong_with (Ok whole) = None
wrong_with (Err fault) = Some fault

-- The checkpoint after all that the source had left, if nothing is wrong with it. If an entry is not genuine, all of it is a list.
abbrev pub IsWhole : Checkpoint → List ℕ → Option (List ℕ) → Option (List ℕ) → ℕ → List ListEntry → Result Checkpoint Unconfirmed → Type 0
IsWhole known list old new limit entries (Ok whole) =
    (more : List ℕ) × CameWhole old new limit more × IsReading (list ++ more) (Ok entries) × IsCheckpoint (list ++ more) whole
    × (whole.before ≡ known.before)
IsWhole known list old new limit entries (Err (unconfirmed.Replay fault)) = (more : List ℕ) × CameWhole old new limit more × IsReading (list ++ more) (Ok entries)
IsWhole known list old new limit entries (Err (unconfirmed.List fault)) = Unit {0}

-- What came of a list that goes on after these bytes was searched.
pub record Searches (known : Checkpoint) (list : List ℕ) (old new : Option (List ℕ)) (limit : ℕ) (goal : GoalData) (search : Search) : Type 0 where
  pub came : List ℕ
  pub over : List ℕ
  pub entries : List ListEntry
  pub rest : List ℕ
  pub came_is : CameFrom old new limit came over
  pub begins : BeginsWith (list ++ came) entries rest
  pub prefix : (algs : AlgSet) (events : List LogEvent) → IsFirmware algs events known.before
      → FindsPrefix algs events goal known (list ++ came) entries search.prefix
  pub count : length entries ≡ search.entries
  pub wrong : CameWrong list old new limit search.entries (wrong_with search.whole)
  pub whole : IsWhole known list old new limit entries search.whole

-- The same, where `watch` has tracked the entries before the first that is not genuine.
pub record WatchesSearch {W : Type 0} (IsAfter : After W) (start : W) (known : Checkpoint) (list : List ℕ) (old new : Option (List ℕ)) (limit : ℕ) (goal : GoalData)
    (search : Search) (watch : W) : Type 0 where
  pub searches : Searches known list old new limit goal search
  pub forged : Option ℕ
  pub watched : IsReplayedOrForged IsAfter start searches.entries watch forged

-- ---- what the code makes of the replay

abbrev pub whole_after : Checkpoint → ListReplay Confirming → Checkpoint
whole_after known replay = record {
  before = known.before;
  after = replay.tracker.banks;
  entries = replay.entries;
  bytes = replay.tracker.bytes;
  recorded = replay.recorded;
  told = replay.told;
  stray = replay.stray;
}

-- The stray entry, if it is not after the entry with this number.
abbrev pub stray_within : Option Stray → ℕ → Option Stray
stray_within None last = None
stray_within (Some first) last = if nat_le first.entry last then Some first else None

abbrev pub checkpoint_at : Checkpoint → ListReplay Confirming → Prefix → Checkpoint
checkpoint_at known replay prefix = record {
  before = known.before;
  after = prefix.registers;
  entries = min (prefix.last + 1) (2 ^ 64 - 1);
  bytes = prefix.bytes;
  recorded = replay.recorded;
  told = replay.told;
  stray = stray_within replay.stray prefix.last;
}

-- The prefix of the search, if the boot aggregate is good.
abbrev pub prefix_with : Bool → Checkpoint → ListReplay Confirming → Option Prefix → Option Checkpoint
prefix_with good known replay None = None
prefix_with good known replay (Some prefix) = if good then Some (checkpoint_at known replay prefix) else None

abbrev pub prefix_after : Bool → Checkpoint → ListReplay Confirming → Option Checkpoint
prefix_after good known replay = prefix_with good known replay replay.tracker.prefix

-- The fault of a list with which this is wrong.
abbrev pub fault_in : Unconfirmed → VerifyFault
fault_in (unconfirmed.List fault) = faults.List fault
fault_in (unconfirmed.Replay fault) = faults.Replay fault

-- It is no fault of a list, so it does not tell of a prefix.
abbrev pub IsNoListFault : VerifyFault → Type 0
IsNoListFault fault = (log list : List ℕ) (old new : Option (List ℕ)) (limit : ℕ) (goal : GoalData) (least : ℕ)
    → IsUnconfirmedFault log list old new limit goal least fault
