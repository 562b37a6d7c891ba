-- Why a use of the libraries fails.
use Rattle.std.specs.Prelude.{◌≡◌, ◌⊎◌, ℕ, List}
use Rattle.pcr_values.specs.declared.expected.ExpectFault.TheVariants as expectations
use Rattle.pcr_values.specs.Names.{HasFirstFault}
use Rattle.boot_log.specs.declared.fault.LogFault.TheVariants as logs
use Rattle.boot_log.specs.Names.{HasLogFault}
use Rattle.boot_verdict.specs.Names.{IsVerifyFault, ReadsAsLog}
use Rattle.uses.specs.declared.fault.UseFault.{UseFault}
use Rattle.uses.specs.declared.fault.UseFault.TheVariants as faults

-- Why there is no verdict on the log and the list: the text states no registers, or memory ran out while it was read; or the first
-- reason against the log and the list.
abbrev pub IsNoVerdict : List ℕ → List ℕ → List ℕ → UseFault → Type 0
IsNoVerdict log list text (faults.Expected fault) = (fault ≡ expectations.Memory) ⊎ HasFirstFault text fault
IsNoVerdict log list text (faults.Verdict fault) = IsVerifyFault log list fault
IsNoVerdict log list text fault = ⊥

-- Why nothing is recorded on the registers of a log: the bytes are no log, or memory ran out while they were read; or they are a log,
-- and there is another reason.
abbrev pub IsNotRecorded : List ℕ → UseFault → Type 0
IsNotRecorded log (faults.Log fault) = (fault ≡ logs.Memory) ⊎ HasLogFault log fault
IsNotRecorded log (faults.Expected fault) = ⊥
IsNotRecorded log (faults.Verdict fault) = ⊥
IsNotRecorded log fault = ReadsAsLog log
