-- What loading takes from a source, and why an input is not loaded.
use Rattle.std.specs.Prelude.{◌≡◌, ℕ, ◌+◌, ◌<◌, ◌⊎◌, Bool, true, List, [], ◌∷◌, ◌++◌, length, codes, Option, None, Some, is_some, ⊤, Result, Err, IfSome, IsErrOf, IsTrue, OnOk, String, string_bytes, ◌≤◌}
use Rattle.std.specs.Io.KnownBytes.{IsAtEnd}
use Rattle.std.specs.Global.{Global}
use Rattle.byte_streams.specs.declared.piece_reader.ReadFault.{ReadFault}
use Rattle.byte_streams.specs.declared.piece_reader.ReadFault.TheVariants as reads
use Rattle.byte_streams.specs.Streams.{LosesPrefix, SourceState, failures_after}
use Rattle.agent_inputs.specs.declared.files.LoadFault.{LoadFault}
use Rattle.agent_inputs.specs.declared.files.LoadFault.TheVariants.{TooLong, Source, Memory}
use Rattle.agent_inputs.specs.declared.fault.RunFault.{RunFault}
use Rattle.agent_inputs.specs.declared.fault.RunFault.TheVariants as runs
use Rattle.pcr_banks.specs.declared.alg.Alg.{Alg}
use Rattle.pcr_banks.specs.declared.digest.Digest.{Digest}
use Rattle.pcr_banks.specs.Names.{digest_of, hash_of}

-- The fault of reading one piece.
abbrev pub fault_of_reading : ReadFault → LoadFault
fault_of_reading reads.Source = Source
fault_of_reading reads.Memory = Memory

-- The source's count of failures after loading: one more after `Source`, else unchanged.
abbrev pub failures_after_load : {A : Type 0} → Result A LoadFault → ℕ → ℕ
failures_after_load (Err Source) failures = failures_after {A = ℕ} (Err Source) failures
failures_after_load result failures = failures

-- The source lost more bytes than this count, if its bytes are known.
abbrev pub LosesMoreThan : ℕ → Option (List ℕ) → Option (List ℕ) → Type 0
LosesMoreThan count None new = ⊤
LosesMoreThan count (Some left) None = ⊥
LosesMoreThan count (Some left) (Some rest) = count + length rest < length left

-- What loading or hashing, within a limit, takes of a source: after `Ok` all that it has left, after `TooLong` more bytes than the limit, and in
-- any case some from its start. `Source` is one failure more. Whether the bytes of the source are known never changes.
pub record Drains {A : Type 0} (limit : ℕ) (old new : SourceState) (result : Result A LoadFault) : Type 0 where
  pub end : OnOk result (IsAtEnd new.remaining)
  pub too_long : IsErrOf result TooLong → LosesMoreThan limit old.remaining new.remaining
  pub prefix : LosesPrefix old.remaining new.remaining
  pub telling : is_some new.remaining ≡ is_some old.remaining
  pub counts : new.failures ≡ failures_after_load result old.failures

-- ---- the program's inputs

-- The most bytes that an input may have: 64 MiB.
abbrev pub input_limit : ℕ
input_limit = 67108864

-- What contracts know of inputs, by the name of a file, or without a name of standard input: all bytes that it holds, none if
-- they are not known; and whether it may fail, to be opened or while it is read.
pub record Inputs : Type 0 where
  pub held : Option (List ℕ) → Option (List ℕ)
  pub may_fail : Option (List ℕ) → Bool

-- Inputs of which nothing is known: they hold any bytes, and each may fail.
abbrev pub unknown : Inputs
unknown = record { held = λ name. None; may_fail = λ name. true }

-- A file that was replaced: its name, and all bytes that it was given.
pub record Replaced : Type 0 where
  pub name : List ℕ
  pub bytes : List ℕ

-- The files that were replaced, one after another; `None` if this is not known.
abbrev pub ReplacedFiles : Type 0
ReplacedFiles = Option (List Replaced)

-- One more file was replaced, and no other; where it is known which were.
abbrev pub HasReplaced : ReplacedFiles → ReplacedFiles → Replaced → Type 0
HasReplaced old new file = IfSome old (λ earlier. new ≡ Some (earlier ++ file ∷ []))

-- These are all bytes of the input of this name, if they are known.
abbrev pub Holds : Inputs → Option (List ℕ) → List ℕ → Type 0
Holds inputs name bytes = IfSome (inputs.held name) (λ all. bytes ≡ all)

-- This holds of the bytes of the input of this name; of some bytes, if its own are not known.
abbrev pub OfInput : Inputs → Option (List ℕ) → (List ℕ → Type 0) → Type 0
OfInput inputs name P = (bytes : List ℕ) × Holds inputs name bytes × P bytes

-- The input of this name is longer than an input may be, if its bytes are known.
abbrev pub HoldsTooMuch : Inputs → Option (List ℕ) → Type 0
HoldsTooMuch inputs name = IfSome (inputs.held name) (λ all. input_limit < length all)

-- The source gives exactly these bytes, if they are known.
abbrev pub GivesAll : Option (List ℕ) → SourceState → Type 0
GivesAll known source = IfSome known (λ all. source.remaining ≡ Some all)

-- The source failed, once: it counted one failure more. Whether its bytes are known is as before.
pub record HasFailed (old new : SourceState) : Type 0 where
  pub counts : new.failures ≡ failures_after {A = ℕ} (Err old) old.failures
  pub telling : is_some new.remaining ≡ is_some old.remaining

-- The name of an input in faults: standard input is `-`.
abbrev pub input_name : Option (List ℕ) → List ℕ
input_name None = codes "-"
input_name (Some name) = name

-- The fault says that the input of this name has too many bytes.
pub record IsTooLong (name : List ℕ) (fault : RunFault) : Type 0 where
  pub input : String Global
  pub names : string_bytes input ≡ name
  pub says : fault ≡ runs.TooLong input

-- The fault says that the input of this name could not be opened, or failed while it was read.
pub record IsNotRead (name : List ℕ) (fault : RunFault) : Type 0 where
  pub input : String Global
  pub names : string_bytes input ≡ name
  pub says : fault ≡ runs.Read input

-- The fault says that the file of this name could not be written.
pub record IsNotWritten (name : List ℕ) (fault : RunFault) : Type 0 where
  pub file : String Global
  pub names : string_bytes file ≡ name
  pub says : fault ≡ runs.Write file

-- The fault says that the text of names in the input of this name is not UTF-8.
pub record IsNotUtf8 (name : List ℕ) (fault : RunFault) : Type 0 where
  pub input : String Global
  pub names : string_bytes input ≡ name
  pub says : fault ≡ runs.NotUtf8 input

-- The fault says that the input of this name could not be opened, or failed while it was read; and it may fail.
abbrev pub IsReadFailure : Inputs → Option (List ℕ) → RunFault → Type 0
IsReadFailure inputs name fault = IsNotRead (input_name name) fault × IsTrue (inputs.may_fail name)

-- Why the input of this name was not loaded: it is too long, it could not be opened or read, or memory ran out.
abbrev pub IsInputFault : Inputs → Option (List ℕ) → RunFault → Type 0
IsInputFault inputs name fault =
    (IsTooLong (input_name name) fault × HoldsTooMuch inputs name) ⊎ IsReadFailure inputs name fault ⊎ (fault ≡ runs.Memory)

-- The digest is the hash, by this algorithm, of all bytes of a file or a source, at most this limit. If its bytes are known, it is
-- the hash of those.
pub record IsHashOfAll (known : Option (List ℕ)) (alg : Alg) (limit : ℕ) (digest : Digest) : Type 0 where
  pub content : List ℕ
  pub held : IfSome known (λ all. content ≡ all)
  pub within : length content ≤ limit
  pub digest_is : digest ≡ digest_of alg (hash_of alg content)
