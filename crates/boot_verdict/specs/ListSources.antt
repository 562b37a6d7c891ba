-- A list that is read from a source: which bytes were taken, and why it was not read.
use Rattle.std.specs.Prelude.{◌≡◌, ◌⊎◌, ℕ, ◌<◌, ◌≤◌, List, [], ◌++◌, length, Option, Some, Result, Ok, Err}
use Rattle.std.specs.Io.KnownBytes.{Consumes, IsAtEnd}
use Rattle.byte_streams.specs.Streams.{failures_after}
use Rattle.ima_list.specs.declared.fault.ListFault.TheVariants as lists
use Rattle.ima_list.specs.Names.{AreGenuine, IsReading, ListEntry}
pub use Rattle.ima_list.specs.Pieces.{FailsFor}
use Rattle.boot_verdict.specs.declared.verifier.VerifyFault.{VerifyFault}
use Rattle.boot_verdict.specs.declared.verifier.VerifyFault.TheVariants as faults

-- The source gave the bytes `list`, at most `limit`, and then `over`, which are read but not taken as part of the list.
pub record CameFrom (old new : Option (List ℕ)) (limit : ℕ) (list over : List ℕ) : Type 0 where
  pub lost : Consumes old new (list ++ over)
  pub within : length list ≤ limit

-- `list` is all that the source had left, at most `limit` bytes.
pub record CameWhole (old new : Option (List ℕ)) (limit : ℕ) (list : List ℕ) : Type 0 where
  pub came : CameFrom old new limit list []
  pub end : IsAtEnd new

-- The bytes read as a list or as a truncated one: no entry among them is refused.
abbrev pub IsSound : List ℕ → Type 0
IsSound list = ((entries : List ListEntry) × IsReading list (Ok entries)) ⊎ ((entry : ℕ) × IsReading list (Err (lists.Truncated entry)))

-- Why the list that goes on after these bytes, with what a source has left, is not read. `Truncated`: the source gave it all. Any
-- other fault of the list: the bytes that came have it whatever follows. `Source`: the source failed after sound bytes. `TooLong`:
-- more bytes followed the first `limit`, which are sound. Or memory ran out.
abbrev pub IsListFaultAfter : List ℕ → Option (List ℕ) → Option (List ℕ) → ℕ → VerifyFault → Type 0
IsListFaultAfter known old new limit (faults.Log fault) = ⊥
IsListFaultAfter known old new limit (faults.List (lists.Truncated entry)) =
    (list : List ℕ) × CameWhole old new limit list × IsReading (known ++ list) (Err (lists.Truncated entry))
IsListFaultAfter known old new limit (faults.List fault) =
    (list : List ℕ) × (over : List ℕ) × CameFrom old new limit list over × FailsFor (known ++ list) fault
IsListFaultAfter known old new limit (faults.Replay fault) = ⊥
IsListFaultAfter known old new limit faults.Source = (list : List ℕ) × CameFrom old new limit list [] × IsSound (known ++ list)
IsListFaultAfter known old new limit faults.TooLong =
    (list : List ℕ) × (over : List ℕ) × CameFrom old new limit list over × (length list ≡ limit) × (0 < length over) × IsSound (known ++ list)
IsListFaultAfter known old new limit faults.Memory = Unit {0}

-- Why a list is not read from a source, whose bytes are the list's first.
abbrev pub IsListFault : Option (List ℕ) → Option (List ℕ) → ℕ → VerifyFault → Type 0
IsListFault old new limit fault = IsListFaultAfter [] old new limit fault

-- All that the source has left is a list of these entries, all genuine, of at most `limit` bytes.
pub record HoldsGenuineList (remaining : Option (List ℕ)) (limit : ℕ) (entries : List ListEntry) : Type 0 where
  pub list : List ℕ
  pub told : remaining ≡ Some list
  pub within : length list ≤ limit
  pub list_is : IsReading list (Ok entries)
  pub genuine : AreGenuine entries

-- The source's count of failures after the call: one more after `Source`, else unchanged.
abbrev pub failures_after_list : {A : Type 0} → Result A VerifyFault → ℕ → ℕ
failures_after_list (Ok value) failures = failures
failures_after_list (Err faults.Source) failures = failures_after {A = ℕ} (Err faults.Source) failures
failures_after_list (Err fault) failures = failures
