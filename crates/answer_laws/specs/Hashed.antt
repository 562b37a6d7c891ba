-- What the machine hashed, and what breaks the hash.
use Rattle.std.specs.Prelude.{◌≡◌, ◌⊎◌, ℕ, List, ◌∷◌, ◌++◌, map}
use Rattle.pcr_banks.specs.declared.alg.Alg.{Alg}
use Rattle.pcr_banks.specs.Names.{extended_by_all, hash_of, reset_value}
use Rattle.binding_laws.specs.BankBinding.{Collision, ExtendsBreakHash}
use Rattle.boot_log.specs.Names.{LogEvent, digests_for, firmware_value, startup_locality}
use Rattle.measured_data.specs.declared.measured.Part.TheVariants.{Whole}
use Rattle.measured_data.specs.Measuring.{IsMeasured}
use Rattle.boot_answers.specs.Extending.{extended_events}

-- All of the event's data is measured in the algorithm's bank.
abbrev pub IsWhole : Alg → LogEvent → Type 0
IsWhole alg event = IsMeasured alg event Whole

-- The machine, started from this locality, extended the register by the hashes of these data, one after another, and then by these digests,
-- whatever they are; and has the value that the log gives. The data is what the firmware hashed, the digests are what root appended.
abbrev pub HasHashed : Alg → ℕ → ℕ → List (List ℕ) → List (List ℕ) → List LogEvent → Type 0
HasHashed alg register locality hashed later events =
    extended_by_all alg (reset_value alg register locality) (map (hash_of alg) hashed ++ later) ≡ firmware_value events alg register

-- One of the two lists is the start of the other.
abbrev pub StartAlike : List (List ℕ) → List (List ℕ) → Type 0
StartAlike first second =
    ((more : List (List ℕ)) × (first ≡ second ++ more)) ⊎ ((more : List (List ℕ)) × (second ≡ first ++ more))

-- The events' data.
abbrev pub data_of : List LogEvent → List (List ℕ)
data_of events = map (λ event. event.payload) events

-- One of these byte strings.
abbrev pub IsAmong : List (List ℕ) → List ℕ → Type 0
IsAmong all bytes = (prefix : List (List ℕ)) × (back : List (List ℕ)) × (all ≡ prefix ++ bytes ∷ back)

-- The data of one of these events.
abbrev pub IsDataAmong : List LogEvent → List ℕ → Type 0
IsDataAmong events bytes =
    (prefix : List LogEvent) × (event : LogEvent) × (back : List LogEvent) × (events ≡ prefix ++ event ∷ back) × (bytes ≡ event.payload)

-- Data that the machine hashed collides with other data that the log shows for the register; or the extends of the two break the hash.
abbrev pub HashIsBroken : Alg → ℕ → ℕ → List (List ℕ) → List (List ℕ) → List LogEvent → Type 0
HashIsBroken alg register locality hashed later events =
    Collision alg (IsAmong hashed) (IsDataAmong (extended_events register events))
    ⊎ ExtendsBreakHash alg (reset_value alg register locality) (map (hash_of alg) hashed ++ later)
    (reset_value alg register (startup_locality events)) (digests_for alg register events)
