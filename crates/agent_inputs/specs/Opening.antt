-- Under which name an input is opened, and which bytes of a firmware event log are replayed.
use Rattle.std.specs.Prelude.{◌≡◌, ℕ, ◌≤◌, Bool, true, false, List, length, bytes_eq, Option, None, Some, Result, Ok, Err, if◌then◌else◌}
use Rattle.pcr_banks.specs.declared.sets.AlgSet.{AlgSet}
use Rattle.boot_log.specs.declared.fault.LogFault.{LogFault}
use Rattle.boot_log.specs.Names.{LogEvent, log_at}
use Rattle.log_imports.specs.Starts.{told_log}
use Rattle.agent_inputs.specs.Loading.{Holds, Inputs, input_limit, input_name}

-- The name under which the input that an argument names is opened, where `-` is standard input, which has none.
abbrev pub opened_name : List ℕ → Option (List ℕ)
opened_name argument = if bytes_eq argument (input_name None) then None else Some argument

-- A log with what its H-CRTM event tells of where the machine started (TPM 2.0 Library, part 1, 34.3); bytes that are no log stay as they are.
abbrev pub told_by : List ℕ → Result (AlgSet × List LogEvent) LogFault → List ℕ
told_by log (Ok read) = told_log log read.1
told_by log (Err fault) = log

abbrev pub told : List ℕ → List ℕ
told log = told_by log (log_at log)

-- The bytes that are replayed of a log: its own; or if its H-CRTM event is to tell where the machine started, the log with what that tells.
abbrev pub replayed : Bool → List ℕ → List ℕ
replayed true log = told log
replayed false log = log

-- These bytes are replayed of the log in the input of this name.
pub record IsReplayedOf (inputs : Inputs) (name : Option (List ℕ)) (hcrtm : Bool) (content : List ℕ) : Type 0 where
  pub log : List ℕ
  pub held : Holds inputs name log
  pub within : length log ≤ input_limit
  pub content_is : content ≡ replayed hcrtm log

-- This holds of the bytes that are replayed of the log in the input of this name; of what is replayed of some log, if its own bytes are not known.
abbrev pub OfReplayed : Inputs → Option (List ℕ) → Bool → (List ℕ → Type 0) → Type 0
OfReplayed inputs name hcrtm P = (content : List ℕ) × IsReplayedOf inputs name hcrtm content × P content
