-- What a register's value tells of measured data.
use Rattle.std.specs.Prelude.{◌≡◌, ◌⊎◌, ℕ, List, ◌∷◌, ◌++◌, length, slice_get, Some, true}
use Rattle.std.specs.List.{Contains}
use Rattle.pcr_banks.specs.declared.alg.Alg.{Alg}
use Rattle.pcr_banks.specs.declared.alg.Alg.TheVariants.{Sha1}
use Rattle.pcr_banks.specs.Names.{extended_by_all, hash_of, reset_value}
use Rattle.boot_log.specs.Names.{LogEvent, digests_for, firmware_value, is_extended_into, startup_locality}
use Rattle.measured_data.specs.declared.measured.Part.{Part}
use Rattle.measured_data.specs.declared.confirmed.Pcr.{Pcr}
use Rattle.measured_data.specs.Measuring.{IsMeasured, IsPart}
use Rattle.binding_laws.specs.BankBinding.{Collision, ExtendsBreakHash}

-- The two byte strings collide.
abbrev pub Collide : Alg → List ℕ → List ℕ → Type 0
Collide alg first second = Collision alg (λ bytes. bytes ≡ first) (λ bytes. bytes ≡ second)

-- The log's event after these events is extended into the register, and a part of its data, these bytes, is measured.
pub record MeasuresAfter (alg : Alg) (register : ℕ) (events before : List LogEvent) (bytes : List ℕ) : Type 0 where
  pub event : LogEvent
  pub after : List LogEvent
  pub parts : events ≡ before ++ event ∷ after
  pub extended : is_extended_into register event ≡ true
  pub part : Part
  pub measured : IsMeasured alg event part
  pub bytes_are : measured.bytes ≡ bytes

-- The machine extended the register by the digests, from its reset value for the locality. They have the hash of the bytes at the place of
-- the log's event after these events; or they and the log's digests, followed by `later`, break the hash.
abbrev pub HasHashAfter : Alg → ℕ → ℕ → List LogEvent → List LogEvent → List ℕ → List (List ℕ) → List (List ℕ) → Type 0
HasHashAfter alg register locality events before bytes digests later =
    (slice_get digests (length (digests_for alg register before)) ≡ Some (hash_of alg bytes))
    ⊎ ExtendsBreakHash alg (reset_value alg register locality) digests
    (reset_value alg register (startup_locality events)) (digests_for alg register events ++ later)

-- ---- registers that match

-- What a machine extended its registers by: the locality from which it was started, and the digests for each register of each bank; and
-- those among them that are later than the log, as by a measurement list.
pub record Extensions : Type 0 where
  pub locality : ℕ
  pub digests : Alg → ℕ → List (List ℕ)
  pub later : Alg → ℕ → List (List ℕ)

-- The machine's register has the value that the log gives it, extended by what is later than the log.
abbrev pub Matches : List LogEvent → Extensions → Pcr → Type 0
Matches events machine place =
    extended_by_all place.alg (reset_value place.alg place.register machine.locality) (machine.digests place.alg place.register)
    ≡ extended_by_all place.alg (firmware_value events place.alg place.register) (machine.later place.alg place.register)

-- The machine extended the event's register by the hash of this part of the event's data, at the event's place; or the extends of this
-- register break the hash.
pub record WasHashedIn (alg : Alg) (events before : List LogEvent) (event : LogEvent) (part : Part) (machine : Extensions) : Type 0 where
  pub bytes : List ℕ
  pub are : IsPart part event bytes
  pub hashed : HasHashAfter alg event.register machine.locality events before bytes (machine.digests alg event.register)
      (machine.later alg event.register)

-- In every bank other than SHA-1 whose register of the event matches this part was hashed; and there is such a bank.
pub record WasHashed (matched : List Pcr) (events before : List LogEvent) (event : LogEvent) (part : Part) (machine : Extensions)
    : Type 0 where
  pub alg : Alg
  pub strong : alg ≡ Sha1 → ⊥
  pub matches : Contains matched (record { alg = alg; register = event.register })
  pub every : (bank : Alg) → (bank ≡ Sha1 → ⊥) → Contains matched (record { alg = bank; register = event.register })
      → WasHashedIn bank events before event part machine
