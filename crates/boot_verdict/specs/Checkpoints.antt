-- Where a verification stopped.
use Rattle.std.specs.Prelude.{◌≡◌, ℕ, ◌-◌, ◌^◌, min, max, List, ◌++◌, length, Option, option_map, Ok}
use Rattle.pcr_banks.specs.Names.{alg_of, bytes_of}
use Rattle.ima_list.specs.Names.{AreGenuine, IsReading, IsReplayed, ListEntry}
use Rattle.boot_verdict.specs.declared.checkpoint.Checkpoint.{Checkpoint}
use Rattle.boot_verdict.specs.declared.verifier.VerifyFault.{VerifyFault}
use Rattle.boot_verdict.specs.declared.verifier.VerifyFault.TheVariants as faults
use Rattle.boot_verdict.specs.Isolation.{first_stray}
use Rattle.boot_verdict.specs.ListReplays.{AreTracked}
use Rattle.boot_verdict.specs.ListSources.{CameWhole, IsListFaultAfter}
use Rattle.boot_verdict.specs.Tracking.{After}
use Rattle.boot_verdict.specs.Verdicts.{IsForged, recorded_aggregate, told_aggregate}

-- The bytes are a list of genuine entries, and this is known after it.
pub record IsCheckpoint (list : List ℕ) (known : Checkpoint) : Type 0 where
  pub entries : List ListEntry
  pub list_is : IsReading list (Ok entries)
  pub genuine : AreGenuine entries
  pub replayed : IsReplayed known.before entries known.after
  pub count : known.entries ≡ length entries
  pub size : known.bytes ≡ length list
  pub recorded : option_map (λ digest. (alg_of digest, bytes_of digest)) known.recorded ≡ recorded_aggregate entries
  pub told : option_map (λ digest. (alg_of digest, bytes_of digest)) known.told ≡ told_aggregate entries
  pub stray : known.stray ≡ first_stray entries

-- How many bytes may follow a checkpoint, where `limit` are allowed: a list has fewer than 2^63 bytes.
abbrev pub most_after : Checkpoint → ℕ → ℕ
most_after known limit = min limit (2 ^ 63 - 1 - max known.bytes known.entries)

-- The checkpoint of the list that goes on with all that the source had left, at most `limit` bytes.
pub record GoesOn (list : List ℕ) (old new : Option (List ℕ)) (limit : ℕ) (next : Checkpoint) : Type 0 where
  pub more : List ℕ
  pub came : CameWhole old new limit more
  pub checkpoint : IsCheckpoint (list ++ more) next

-- The same, where `watch` has tracked the entries of the whole list.
pub record WatchesOn {W : Type 0} (IsAfter : After W) (start : W) (list : List ℕ) (old new : Option (List ℕ)) (limit : ℕ) (next : Checkpoint) (watch : W) : Type 0 where
  pub more : List ℕ
  pub came : CameWhole old new limit more
  pub checkpoint : IsCheckpoint (list ++ more) next
  pub tracked : AreTracked IsAfter start checkpoint.entries watch

-- Why the bytes that a source has left are not taken after this list: the first of these that holds. `Replay` comes only after all of
-- them.
abbrev pub IsMoreFault : List ℕ → Option (List ℕ) → Option (List ℕ) → ℕ → VerifyFault → Type 0
IsMoreFault list old new limit (faults.Replay fault) = (more : List ℕ) × CameWhole old new limit more × IsForged (list ++ more) fault
IsMoreFault list old new limit fault = IsListFaultAfter list old new limit fault
