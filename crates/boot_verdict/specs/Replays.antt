-- The registers that a list alone makes. How entries change the registers is defined in
-- ima_list.
use Rattle.std.specs.Prelude.{ℕ, true, List, [], Option, Ok}
use Rattle.pcr_banks.specs.declared.banks.Banks.{Banks}
use Rattle.pcr_banks.specs.declared.sets.AlgSet.{AlgSet}
use Rattle.pcr_banks.specs.Names.{IsReset, algs_where}
use Rattle.ima_list.specs.Names.{AreGenuine, IsReading, IsReplayed, ListEntry}
use Rattle.boot_verdict.specs.declared.verifier.VerifyFault.{VerifyFault}
use Rattle.boot_verdict.specs.Checkpoints.{IsMoreFault}
use Rattle.boot_verdict.specs.ListSources.{CameWhole}

-- All known algorithms.
abbrev pub every_alg : AlgSet
every_alg = algs_where (λ alg. true)

-- The registers before a list: those of all banks, after a start from locality 0.
abbrev pub IsListStart : Banks → Type 0
IsListStart banks = IsReset every_alg 0 banks

-- The registers that these entries alone make.
pub record IsListReplay (entries : List ListEntry) (banks : Banks) : Type 0 where
  pub start : Banks
  pub reset : IsListStart start
  pub replayed : IsReplayed start entries banks

-- All bytes that the source had left, at most `limit`, are a list of genuine entries, and these are its registers.
pub record IsListReplayFrom (old new : Option (List ℕ)) (limit : ℕ) (banks : Banks) : Type 0 where
  pub list : List ℕ
  pub entries : List ListEntry
  pub came : CameWhole old new limit list
  pub list_is : IsReading list (Ok entries)
  pub genuine : AreGenuine entries
  pub replay : IsListReplay entries banks

-- Why there are no such registers: why the list is not read, or is not genuine. `Replay` comes only after all of it.
abbrev pub IsListReplayFault : Option (List ℕ) → Option (List ℕ) → ℕ → VerifyFault → Type 0
IsListReplayFault old new limit fault = IsMoreFault [] old new limit fault
