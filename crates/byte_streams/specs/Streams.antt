-- The state of sinks and sources, and how a call changes it.
use Rattle.std.specs.Prelude.{◌≡◌, ℕ, ◌+◌, ◌-◌, ◌^◌, ◌<◌, ◌≤◌, min, List, ◌++◌, length, Option, is_some, Result, Ok, Err, IfOk, OnOk}
use Rattle.std.specs.Io.KnownBytes.{Appends, Consumes, IsAtEnd, ReadConsumes, WriteAppends}
use Rattle.byte_streams.specs.declared.piece_reader.ReadFault.{ReadFault}
use Rattle.byte_streams.specs.declared.piece_reader.ReadFault.TheVariants.{Source, Memory}

-- A sink: the bytes that it took (`None` where it does not tell them), and how many times it failed.
pub record SinkState : Type 0 where
  pub taken : Option (List ℕ)
  pub failures : ℕ

-- A source: the remaining bytes (`None` where it does not tell them), and how many times it failed.
pub record SourceState : Type 0 where
  pub remaining : Option (List ℕ)
  pub failures : ℕ

-- A device's count of failures after a call: an `Err` adds one, up to 2^64 - 1.
abbrev pub failures_after : {A E : Type 0} → Result A E → ℕ → ℕ
failures_after (Ok value) failures = failures
failures_after (Err fault) failures = min (failures + 1) (2 ^ 64 - 1)

-- One write to a sink: `Ok n` takes the first n bytes, at least one where any are offered; `Err` takes none, and is one failure
-- more. Whether the sink tells its bytes never changes.
pub record Takes {E : Type 0} (old new : SinkState) (result : Result ℕ E) (bytes : List ℕ) : Type 0 where
  pub within : IfOk result (λ n. n ≤ length bytes)
  pub advances : IfOk result (λ n. 0 < length bytes → 0 < n)
  pub takes : WriteAppends old.taken new.taken result bytes
  pub telling : is_some new.taken ≡ is_some old.taken
  pub counts : new.failures ≡ failures_after result old.failures

-- One read from a source: `Ok n` puts the next n bytes into the buffer, none only where none remain or the buffer is empty; `Err`
-- gives none, and is one failure more. Whether the source tells its bytes never changes.
pub record Gives {E : Type 0} (old new : SourceState) (result : Result ℕ E) (buffer : List ℕ) : Type 0 where
  pub gives : ReadConsumes old.remaining new.remaining result buffer
  pub telling : is_some new.remaining ≡ is_some old.remaining
  pub counts : new.failures ≡ failures_after result old.failures

-- A sink took a prefix of the text, and nothing else.
pub record TakesPart (old new : Option (List ℕ)) (text : List ℕ) : Type 0 where
  pub prefix : List ℕ
  pub rest : List ℕ
  pub whole : text ≡ prefix ++ rest
  pub taken : Appends old new prefix

-- A text was sent to a sink: after `Ok` it took the whole text, and in any case a prefix of it. `Err` is one failure more, `Ok`
-- is none. Whether the sink tells its bytes never changes.
pub record Sends {A E : Type 0} (old new : SinkState) (result : Result A E) (text : List ℕ) : Type 0 where
  pub ok : OnOk result (Appends old.taken new.taken text)
  pub part : TakesPart old.taken new.taken text
  pub telling : is_some new.taken ≡ is_some old.taken
  pub counts : new.failures ≡ failures_after result old.failures

-- ---- reading piece by piece

-- The most bytes in one piece: 64 KiB.
abbrev pub piece_limit : ℕ
piece_limit = 65536

-- A source lost some bytes from its start, and nothing else.
pub record LosesPrefix (old new : Option (List ℕ)) : Type 0 where
  pub prefix : List ℕ
  pub lost : Consumes old new prefix

-- `count` bytes, at most one piece, came from the source's start and were appended to those before; `count` is 0 only where none
-- remain.
pub record GivesPiece (old new : Option (List ℕ)) (before after : List ℕ) (count : ℕ) : Type 0 where
  pub came : List ℕ
  pub lost : Consumes old new came
  pub added : after ≡ before ++ came
  pub count_is : length came ≡ count
  pub within : count ≤ piece_limit
  pub end : count ≡ 0 → IsAtEnd new

-- A source's count of failures after a piece was asked for: `Source` adds one, `Memory` does not.
abbrev pub failures_after_reading : {A : Type 0} → Result A ReadFault → ℕ → ℕ
failures_after_reading (Ok count) failures = failures
failures_after_reading (Err Source) failures = failures_after {A = ℕ} (Err Source) failures
failures_after_reading (Err Memory) failures = failures
