-- The confirmed prefix of a list: the shortest with which all is as is sought.
use Rattle.std.specs.Prelude.{◌≡◌, ℕ, ◌<◌, ◌≤◌, true, false, List, ◌++◌, length, take, Option, Some, None, Ok, Err}
use Rattle.pcr_banks.specs.declared.sets.AlgSet.{AlgSet}
use Rattle.boot_log.specs.declared.header.DeclaredAlgorithm.{DeclaredAlgorithm}
use Rattle.boot_log.specs.Names.{IsLog, LogEvent, algs_in}
use Rattle.ima_list.specs.Names.{AreGenuine, BeginsWith, IsReading, IsReplayFault, ListEntry, list_fault_entry, list_spelling}
use Rattle.boot_verdict.specs.declared.report.Unconfirmed.{Unconfirmed}
use Rattle.boot_verdict.specs.declared.report.Unconfirmed.TheVariants as unconfirmed
use Rattle.growing_lists.specs.declared.confirmation.Confirmed.{Confirmed}
use Rattle.growing_lists.specs.declared.session.Session.{Session}
use Rattle.boot_verdict.specs.declared.verifier.VerifyFault.{VerifyFault}
use Rattle.boot_verdict.specs.declared.verifier.VerifyFault.TheVariants as faults
use Rattle.boot_verdict.specs.Names.{After, AreTracked, CameFrom, CameWhole, IsListFaultAfter}
use Rattle.growing_lists.specs.Goals.{GoalData, is_confirmed}
use Rattle.growing_lists.specs.Sessions.{HasTaken, TakesMore, WatchesMore}

-- These entries are the shortest prefix of a list that has at least `least` entries and with which log and list are confirmed. Each of
-- them is genuine.
pub record IsConfirmed (algs : AlgSet) (events : List LogEvent) (goal : GoalData) (least : ℕ) (prefix : List ListEntry) : Type 0 where
  pub genuine : AreGenuine prefix
  pub enough : least ≤ length prefix
  pub is_match : is_confirmed goal algs events prefix ≡ true
  pub shortest : (n : ℕ) → least ≤ n → n < length prefix → is_confirmed goal algs events (take n prefix) ≡ false

-- None of the prefixes of these entries that have at least `least` entries, all genuine, is confirmed.
abbrev pub AreUnconfirmed : AlgSet → List LogEvent → GoalData → ℕ → List ListEntry → Type 0
AreUnconfirmed algs events goal least entries =
    (n : ℕ) → least ≤ n → n ≤ length entries → AreGenuine (take n entries) → is_confirmed goal algs events (take n entries) ≡ false

-- The list has so many entries, and this is wrong with it, if anything: the fault of its bytes, which has so many entries before it; or
-- else that of its entries.
abbrev pub IsWrongWith : List ℕ → ℕ → Option Unconfirmed → Type 0
IsWrongWith list count None = (entries : List ListEntry) × IsReading list (Ok entries) × AreGenuine entries × (count ≡ length entries)
IsWrongWith list count (Some (unconfirmed.Replay fault)) =
    (entries : List ListEntry) × IsReading list (Ok entries) × IsReplayFault entries fault × (count ≡ length entries)
IsWrongWith list count (Some (unconfirmed.List fault)) = IsReading list (Err fault) × (list_fault_entry fault ≡ Some count)

-- This holds of the list that goes on after these bytes with what a source had left, which gave it up to such a fault of its bytes.
abbrev pub CameWrong : List ℕ → Option (List ℕ) → Option (List ℕ) → ℕ → ℕ → Option Unconfirmed → Type 0
CameWrong list old new limit count (Some (unconfirmed.List fault)) =
    IsListFaultAfter list old new limit (faults.List fault) × (list_fault_entry fault ≡ Some count)
CameWrong list old new limit count wrong = (more : List ℕ) × CameWhole old new limit more × IsWrongWith (list ++ more) count wrong

-- The session has taken the confirmed prefix, with at least `least` entries, of a list that goes on after these bytes; and this comes
-- with it.
pub record IsPrefixTaken (log list : List ℕ) (old new : Option (List ℕ)) (limit : ℕ) (goal : GoalData) (least : ℕ) (session : Session)
    (confirmed : Confirmed) : Type 0 where
  pub came : List ℕ
  pub over : List ℕ
  pub table : List DeclaredAlgorithm
  pub events : List LogEvent
  pub prefix : List ListEntry
  pub rest : List ℕ
  pub came_is : CameFrom old new limit came over
  pub log_is : IsLog log table events
  pub begins : BeginsWith (list ++ came) prefix rest
  pub shortest : IsConfirmed (algs_in table) events goal least prefix
  pub taken : HasTaken log (list_spelling prefix) session
  pub wrong : CameWrong list old new limit confirmed.entries confirmed.unconfirmed

-- The same, where `watch` has tracked entries that begin with those of the prefix.
pub record WatchesPrefix {W : Type 0} (IsAfter : After W) (start : W) (log list : List ℕ) (old new : Option (List ℕ)) (limit : ℕ) (goal : GoalData) (least : ℕ)
    (session : Session) (confirmed : Confirmed) (watch : W) : Type 0 where
  pub prefix : IsPrefixTaken log list old new limit goal least session confirmed
  pub all : List ListEntry
  pub tracked : AreTracked IsAfter start all watch
  pub first : take (length prefix.prefix) all ≡ prefix.prefix

-- What `watch` has tracked, whether a prefix is confirmed or not.
abbrev pub WatchesFound : {W : Type 0} → After W → W → List ℕ → List ℕ → Option (List ℕ) → Option (List ℕ) → ℕ → GoalData → ℕ → Session → Option Confirmed → W
    → Type 0
WatchesFound IsAfter start log list old new limit goal least session (Some confirmed) watch =
    WatchesPrefix IsAfter start log list old new limit goal least session confirmed watch
WatchesFound IsAfter start log list old new limit goal least session None watch = WatchesMore IsAfter start log list old new limit session watch

-- The session has taken all of the list, and no prefix of it is confirmed.
pub record TakesUnconfirmed (log list : List ℕ) (old new : Option (List ℕ)) (limit : ℕ) (goal : GoalData) (least : ℕ) (session : Session) : Type 0 where
  pub takes : TakesMore log list old new limit session
  pub entries : List ListEntry
  pub list_is : IsReading (list ++ takes.more) (Ok entries)
  pub none : (table : List DeclaredAlgorithm) (events : List LogEvent) → IsLog log table events → AreUnconfirmed (algs_in table) events goal least entries

-- So many entries are at the start of what came, and no prefix of them is confirmed.
pub record CameUnconfirmed (log list : List ℕ) (old new : Option (List ℕ)) (limit : ℕ) (goal : GoalData) (least count : ℕ) : Type 0 where
  pub came : List ℕ
  pub over : List ℕ
  pub entries : List ListEntry
  pub rest : List ℕ
  pub came_is : CameFrom old new limit came over
  pub begins : BeginsWith (list ++ came) entries rest
  pub count_is : length entries ≡ count
  pub none : (table : List DeclaredAlgorithm) (events : List LogEvent) → IsLog log table events → AreUnconfirmed (algs_in table) events goal least entries

-- All that came is a list, and no prefix of it is confirmed.
pub record IsUnconfirmedList (log list : List ℕ) (old new : Option (List ℕ)) (limit : ℕ) (goal : GoalData) (least : ℕ) : Type 0 where
  pub more : List ℕ
  pub entries : List ListEntry
  pub came : CameWhole old new limit more
  pub list_is : IsReading (list ++ more) (Ok entries)
  pub none : (table : List DeclaredAlgorithm) (events : List LogEvent) → IsLog log table events → AreUnconfirmed (algs_in table) events goal least entries

-- The list is refused only if no prefix of it is confirmed: of the entries before the one that the fault names, or of all.
abbrev pub IsUnconfirmedFault : List ℕ → List ℕ → Option (List ℕ) → Option (List ℕ) → ℕ → GoalData → ℕ → VerifyFault → Type 0
IsUnconfirmedFault log list old new limit goal least (faults.List fault) =
    (count : ℕ) × (list_fault_entry fault ≡ Some count) × CameUnconfirmed log list old new limit goal least count
IsUnconfirmedFault log list old new limit goal least (faults.Replay fault) = IsUnconfirmedList log list old new limit goal least
IsUnconfirmedFault log list old new limit goal least fault = Unit {0}
