-- Which data a checkpoint can have, and which have the same.
use Rattle.std.specs.Prelude.{◌≡◌, ℕ, ◌+◌, ◌*◌, ◌^◌, ◌<◌, ◌≤◌, List, length, IsTrue, None, IsSome, IfSome}
use Rattle.hex.specs.Hex.{IsBytes}
use Rattle.pcr_banks.specs.declared.alg.Alg.{Alg}
use Rattle.pcr_banks.specs.declared.banks.Banks.{Banks}
use Rattle.pcr_banks.specs.Names.{alg_of, bytes_of, is_active, register_count, size_of, value_at}
use Rattle.boot_verdict.specs.declared.checkpoint.Checkpoint.{Checkpoint}
use Rattle.boot_verdict.specs.declared.isolation.Stray.{Stray}
use Rattle.boot_verdict.specs.Names.{list_register}
use Rattle.tpm_quotes.specs.Spelling.{TpmQuote}
use Rattle.growing_lists.specs.declared.saved_state.Boot.{Boot}
use Rattle.growing_lists.specs.declared.saved_state.SavedState.{SavedState}

-- Bytes, as many as a hash of the algorithm has.
abbrev pub IsHash : Alg → List ℕ → Type 0
IsHash alg value = (length value ≡ size_of alg) × IsBytes value

-- Each register of an active bank has a value, which is as long as a hash of the bank's algorithm. It is so in all banks that a
-- program has.
pub record HaveValues (banks : Banks) : Type 0 where
  pub whole : (a : Alg) (r : ℕ) → IsTrue (is_active banks a) → r < register_count → IsSome (value_at banks a r)
  pub sized : (a : Alg) (r : ℕ) → IfSome (value_at banks a r) (IsHash a)

-- Both have the same active banks.
abbrev pub SameActive : Banks → Banks → Type 0
SameActive first second = (a : Alg) → is_active first a ≡ is_active second a

-- All registers have the same values.
abbrev pub SameValues : Banks → Banks → Type 0
SameValues first second = (a : Alg) (r : ℕ) → value_at first a r ≡ value_at second a r

-- Both have the same active banks, and all registers have the same values.
pub record AreSameBanks (first second : Banks) : Type 0 where
  pub active : SameActive first second
  pub values : SameValues first second

-- After the list's bytes there is room for a whole input, of 64 MiB, below 2^63 bytes: so they and its entries can be counted.
abbrev pub LeavesRoom : Checkpoint → Type 0
LeavesRoom checkpoint = checkpoint.bytes + 2 ^ 26 < 2 ^ 63

-- The entry is one of so many, and extends another register than that of the list.
pub record IsStrayOf (entries : ℕ) (stray : Stray) : Type 0 where
  pub within : stray.entry < entries
  pub exists : stray.register < register_count
  pub other : stray.register ≡ list_register → ⊥

-- Nothing was taken: no byte, no boot aggregate, and no register is another.
pub record HasTakenNothing (checkpoint : Checkpoint) : Type 0 where
  pub bytes : checkpoint.bytes ≡ 0
  pub recorded : checkpoint.recorded ≡ None
  pub told : checkpoint.told ≡ None
  pub same : AreSameBanks checkpoint.before checkpoint.after

-- The counts, the boot aggregate, the stray entry and the active banks are such as a list leaves, each of whose entries has 32 bytes or more.
pub record IsCounted (checkpoint : Checkpoint) : Type 0 where
  pub room : LeavesRoom checkpoint
  pub size : checkpoint.entries * 32 ≤ checkpoint.bytes
  pub active : SameActive checkpoint.before checkpoint.after
  pub stray : IfSome checkpoint.stray (IsStrayOf checkpoint.entries)
  pub empty : checkpoint.entries ≡ 0 → HasTakenNothing checkpoint

-- The counts are possible; and what else is so of all values that a program has.
pub record IsPossible (checkpoint : Checkpoint) : Type 0 where
  pub counted : IsCounted checkpoint
  pub before : HaveValues checkpoint.before
  pub after : HaveValues checkpoint.after
  pub recorded : IfSome checkpoint.recorded (λ digest. IsHash (alg_of digest) (bytes_of digest))
  pub told : IfSome checkpoint.told (λ digest. IsHash (alg_of digest) (bytes_of digest))

-- Two checkpoints of the same data.
pub record SameData (first second : Checkpoint) : Type 0 where
  pub entries : first.entries ≡ second.entries
  pub bytes : first.bytes ≡ second.bytes
  pub recorded : first.recorded ≡ second.recorded
  pub told : first.told ≡ second.told
  pub stray : first.stray ≡ second.stray
  pub before : SameValues first.before second.before
  pub after : SameValues first.after second.after

-- ---- what is saved

-- The boot in which a TPM made a quote, by its counts of resets and restarts (TPM 2.0 Library, part 2, TPMS_CLOCK_INFO).
abbrev pub boot_of : TpmQuote → Boot
boot_of quote = record { resets = quote.clock.resets; restarts = quote.clock.restarts }

-- The counts fit their fields, of 32 bits.
pub record IsBoot (boot : Boot) : Type 0 where
  pub resets : boot.resets < 2 ^ 32
  pub restarts : boot.restarts < 2 ^ 32

-- What is known is possible, and so is the boot.
pub record IsPossibleState (state : SavedState) : Type 0 where
  pub checkpoint : IsPossible state.checkpoint
  pub boot : IfSome state.boot IsBoot

-- Two states of the same data.
pub record IsSameState (first second : SavedState) : Type 0 where
  pub checkpoint : SameData first.checkpoint second.checkpoint
  pub boot : first.boot ≡ second.boot
