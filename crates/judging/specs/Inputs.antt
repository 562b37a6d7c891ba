-- Where inputs are, what they hold, and why one is not loaded.
use Rattle.std.specs.Prelude.{◌≡◌, ℕ, ◌^◌, ◌-◌, ◌⊎◌, List, Option, None, Some, option_map, IfSome, IsTrue}
use Rattle.agent_inputs.specs.Opening.{told}
use Rattle.boot_verdict.specs.declared.verifier.VerifyFault.{VerifyFault}
use Rattle.boot_verdict.specs.declared.verifier.VerifyFault.TheVariants as verdicts
use Rattle.agent_inputs.specs.declared.fault.RunFault.{RunFault}
use Rattle.agent_inputs.specs.declared.fault.RunFault.TheVariants as runs
use Rattle.agent_inputs.specs.Faults.{fault_of_list, fault_of_log}
use Rattle.agent_inputs.specs.Loading.{Inputs, IsNotRead, IsTooLong, input_limit, input_name}
use Rattle.agent_inputs.specs.Loading.{IsInputFault as IsFileFault}

-- Where an input is: in the file of this name; standard input; in the file of this name as a log whose H-CRTM event tells where the machine
-- started; or in memory, where these bytes are all of it.
pub data Where : Type 0 where
  FileOf : List ℕ → Where
  StandardInput : Where
  HcrtmLogOf : List ℕ → Where
  BytesOf : List ℕ → Where

-- All bytes of the input, if they are known: of a log whose H-CRTM event tells where the machine started, the log with what that tells.
abbrev pub held_in : Inputs → Where → Option (List ℕ)
held_in inputs (FileOf name) = inputs.held (Some name)
held_in inputs StandardInput = inputs.held None
held_in inputs (HcrtmLogOf name) = option_map told (inputs.held (Some name))
held_in inputs (BytesOf all) = Some all

-- The most bytes that the input may have, where it is read as a list: of a file or of standard input 64 MiB; in memory, where such a log is, too, no
-- more than there can be.
abbrev pub limit_of : Where → ℕ
limit_of (FileOf name) = input_limit
limit_of StandardInput = input_limit
limit_of (HcrtmLogOf name) = 2 ^ 63 - 1
limit_of (BytesOf all) = 2 ^ 63 - 1

-- These are all bytes of the input, if they are known.
abbrev pub Holds : Inputs → Where → List ℕ → Type 0
Holds inputs place content = IfSome (held_in inputs place) (λ all. content ≡ all)

-- This holds of the bytes of the input; of some bytes, if its own are not known.
abbrev pub OfInput : Inputs → Where → (List ℕ → Type 0) → Type 0
OfInput inputs place P = (content : List ℕ) × Holds inputs place content × P content

-- The input may fail, to be opened or while it is read: bytes in memory do not.
abbrev pub MayFail : Inputs → Where → Type 0
MayFail inputs (FileOf name) = IsTrue (inputs.may_fail (Some name))
MayFail inputs StandardInput = IsTrue (inputs.may_fail None)
MayFail inputs (HcrtmLogOf name) = IsTrue (inputs.may_fail (Some name))
MayFail inputs (BytesOf all) = ⊥

-- Why the input was not loaded: as a file is not; bytes in memory always are.
abbrev pub IsInputFault : Inputs → Where → RunFault → Type 0
IsInputFault inputs (FileOf name) fault = IsFileFault inputs (Some name) fault
IsInputFault inputs StandardInput fault = IsFileFault inputs None fault
IsInputFault inputs (HcrtmLogOf name) fault = IsFileFault inputs (Some name) fault
IsInputFault inputs (BytesOf all) fault = ⊥

-- The program's fault for a verifier's fault, where the list is this input: one of its source names the file, or standard input. Of bytes in
-- memory, or that are loaded before, no source fails, and no list is too long.
abbrev pub IsFaultAt : Where → VerifyFault → RunFault → Type 0
IsFaultAt place (verdicts.Log first) fault = fault ≡ fault_of_log first
IsFaultAt place (verdicts.List first) fault = fault ≡ fault_of_list first
IsFaultAt place (verdicts.Replay first) fault = fault ≡ runs.Replay first
IsFaultAt (FileOf name) verdicts.Source fault = IsNotRead name fault ⊎ (fault ≡ runs.Memory)
IsFaultAt (FileOf name) verdicts.TooLong fault = IsTooLong name fault ⊎ (fault ≡ runs.Memory)
IsFaultAt StandardInput verdicts.Source fault = IsNotRead (input_name None) fault ⊎ (fault ≡ runs.Memory)
IsFaultAt StandardInput verdicts.TooLong fault = IsTooLong (input_name None) fault ⊎ (fault ≡ runs.Memory)
IsFaultAt place first fault = fault ≡ runs.Memory

-- Why the input could not be opened: it may fail, and the fault names it, or memory ran out for the name. A log whose H-CRTM event tells where
-- the machine started is loaded.
abbrev pub IsNotOpened : Inputs → Where → RunFault → Type 0
IsNotOpened inputs (HcrtmLogOf name) fault = IsInputFault inputs (HcrtmLogOf name) fault
IsNotOpened inputs place fault = MayFail inputs place × IsFaultAt place verdicts.Source fault
