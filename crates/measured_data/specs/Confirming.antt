-- The banks that answer for a register, and which part of an event's data the matching registers confirm.
use Rattle.std.specs.Prelude.{◌≡◌, ℕ, ◌&&◌, ◌||◌, ◌==◌, Bool, not, List, find, Option}
use Rattle.std.specs.List.{Contains, list_all, list_any}
use Rattle.pcr_banks.specs.declared.alg.Alg.{Alg}
use Rattle.pcr_banks.specs.declared.alg.Alg.TheVariants.{Sha1}
use Rattle.pcr_banks.specs.Names.{all_algs, same_alg}
use Rattle.boot_log.specs.Names.{LogEvent}
use Rattle.measured_data.specs.declared.measured.Part.{Part}
use Rattle.measured_data.specs.declared.confirmed.Pcr.{Pcr}
use Rattle.measured_data.specs.Measuring.{IsMeasured, all_parts, is_measured}

-- The bank answers for the register: the register of this bank matches, and it is no bank of SHA-1, of which collisions are made in
-- practice.
pub record IsAnswering (matched : List Pcr) (alg : Alg) (register : ℕ) : Type 0 where
  pub strong : alg ≡ Sha1 → ⊥
  pub matches : Contains matched (record { alg = alg; register = register })

-- The event's register is among those that match in some bank other than SHA-1, of which collisions are made in practice; and this part of
-- the event's data is measured in every such bank. One bank is not enough: a bank that the firmware leaves unextended matches whatever a
-- program extends into it later (CVE-2021-42299).
pub record IsConfirmed (matched : List Pcr) (event : LogEvent) (part : Part) : Type 0 where
  pub alg : Alg
  pub strong : alg ≡ Sha1 → ⊥
  pub matches : Contains matched (record { alg = alg; register = event.register })
  pub every : (bank : Alg) → (bank ≡ Sha1 → ⊥) → Contains matched (record { alg = bank; register = event.register })
      → IsMeasured bank event part

-- ---- as functions

-- Whether the bank's register is among the places.
abbrev pub has_pcr : List Pcr → Alg → ℕ → Bool
has_pcr places alg register = list_any (λ place. same_alg place.alg alg && (place.register == register)) places

-- Whether the bank answers for the register: it is not that of SHA-1, and its register is among the places.
abbrev pub is_answering : List Pcr → Alg → ℕ → Bool
is_answering matched alg register = not (same_alg alg Sha1) && has_pcr matched alg register

-- Whether some bank answers for the register.
abbrev pub has_answer : List Pcr → ℕ → Bool
has_answer matched register = list_any (λ alg. is_answering matched alg register) all_algs

-- Whether some bank answers for the event's register, and this part of the event's data is measured in every bank that does.
abbrev pub is_confirmed : List Pcr → LogEvent → Part → Bool
is_confirmed matched event part =
    has_answer matched event.register
    && list_all (λ alg. not (is_answering matched alg event.register) || is_measured alg event part) all_algs

-- The first part of the event's data that is confirmed.
abbrev pub confirmed_part : List Pcr → LogEvent → Option Part
confirmed_part matched event = find (is_confirmed matched event) all_parts
