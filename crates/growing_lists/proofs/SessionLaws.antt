-- A list that goes on where a checkpoint is.
use Rattle.std.proofs.Common.{◌≡◌, ℕ, List, sym, ◌∙◌}
use Rattle.pcr_banks.specs.declared.banks.Banks.{Banks}
use Rattle.boot_verdict.specs.declared.checkpoint.Checkpoint.{Checkpoint}
use Rattle.boot_log.specs.declared.header.DeclaredAlgorithm.{DeclaredAlgorithm}
use Rattle.boot_log.specs.Names.{IsFirmware, IsLog, LogEvent, algs_in}
use Rattle.growing_lists.specs.declared.session.Session.{Session}
use Rattle.growing_lists.specs.CheckpointData.{AreSameBanks}
use Rattle.boot_verdict.specs.Names.{IsCheckpoint}
use Rattle.growing_lists.specs.Sessions.{HasTaken, IsOfBoot}

-- ---- sessions

-- What a session knows of another list of its boot.
abbrev pub taken_as : {log list other : List ℕ} {session : Session} {next : Checkpoint} → HasTaken log list session → IsCheckpoint other next
    → next.before ≡ session.checkpoint.before → HasTaken log other (record { log = session.log; checkpoint = next })
taken_as has is same = record {
  table = has.table;
  events = has.events;
  log_is = has.log_is;
  same_log = has.same_log;
  start = rw same has.start;
  checkpoint = is;
}

-- ---- another boot

-- The log's registers are those of these banks.
pub of_boot : (log : List ℕ) (known : Checkpoint) (registers : Banks) (table : List DeclaredAlgorithm) (events : List LogEvent) → IsLog log table events
    → IsFirmware (algs_in table) events registers → AreSameBanks registers known.before → IsOfBoot log known
of_boot log known registers table events is firmware same = record {
  table = table;
  events = events;
  log_is = is;
  start = record {
    active = λ a. sym (same.active a) ∙ firmware.active a;
    values = λ a r. sym (same.values a r) ∙ firmware.values a r;
  };
}

pub same_of_boot : (log : List ℕ) (known : Checkpoint) (registers : Banks) (boot : IsOfBoot log known)
    → IsFirmware (algs_in boot.table) boot.events registers → AreSameBanks registers known.before
same_of_boot log known registers boot firmware = record {
  active = λ a. firmware.active a ∙ sym (boot.start.active a);
  values = λ a r. firmware.values a r ∙ sym (boot.start.values a r);
}
