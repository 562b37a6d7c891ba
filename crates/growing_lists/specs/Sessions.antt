-- The verification of a list that grows.
use Rattle.std.specs.Prelude.{◌≡◌, ℕ, List, ◌++◌, Option}
use Rattle.boot_log.specs.declared.header.DeclaredAlgorithm.{DeclaredAlgorithm}
use Rattle.boot_log.specs.Names.{IsFirmware, IsLog, LogEvent, algs_in, log_bytes}
use Rattle.boot_verdict.specs.declared.checkpoint.Checkpoint.{Checkpoint}
use Rattle.growing_lists.specs.declared.session.Session.{Session}
use Rattle.boot_verdict.specs.Names.{After, AreTracked, CameWhole, IsCheckpoint}

-- The session is of this log, and has taken this list.
pub record HasTaken (log list : List ℕ) (session : Session) : Type 0 where
  pub table : List DeclaredAlgorithm
  pub events : List LogEvent
  pub log_is : IsLog log table events
  pub same_log : log_bytes session.log ≡ log
  pub start : IsFirmware (algs_in table) events session.checkpoint.before
  pub checkpoint : IsCheckpoint list session.checkpoint

-- The log leaves the registers that are before the checkpoint's list.
pub record IsOfBoot (log : List ℕ) (known : Checkpoint) : Type 0 where
  pub table : List DeclaredAlgorithm
  pub events : List LogEvent
  pub log_is : IsLog log table events
  pub start : IsFirmware (algs_in table) events known.before

-- The session has taken, after this list, all that the source had left, at most `limit` bytes.
pub record TakesMore (log list : List ℕ) (old new : Option (List ℕ)) (limit : ℕ) (session : Session) : Type 0 where
  pub more : List ℕ
  pub came : CameWhole old new limit more
  pub taken : HasTaken log (list ++ more) session

-- The same, where `watch` has tracked the entries of the whole list.
pub record WatchesMore {W : Type 0} (IsAfter : After W) (start : W) (log list : List ℕ) (old new : Option (List ℕ)) (limit : ℕ) (session : Session) (watch : W) : Type 0 where
  pub takes : TakesMore log list old new limit session
  pub tracked : AreTracked IsAfter start takes.taken.checkpoint.entries watch
