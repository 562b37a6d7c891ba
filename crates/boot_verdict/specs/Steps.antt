-- A boot as one sequence of steps: the events of a firmware log, and then the entries of a measurement list.
-- What events and entries extend registers with is defined in boot_log and ima_list.
use Rattle.std.specs.Prelude.{ℕ, ◌==◌, ◌&&◌, nat_lt, Bool, if◌then◌else◌, List, [], ◌∷◌, ◌++◌, fold, map, find, Option, Some, None, option_map}
use Rattle.pcr_banks.specs.declared.alg.Alg.{Alg}
use Rattle.pcr_banks.specs.declared.sets.AlgSet.{AlgSet}
use Rattle.pcr_banks.specs.Names.{digest_in, extended_by, has_alg, register_count, reset_value}
use Rattle.boot_log.specs.Names.{LogEvent, is_extended_into, startup_locality}
use Rattle.ima_list.specs.Names.{ListEntry, bank_digest}

-- ---- steps

pub data Step : Type 0 where
  OfEvent : LogEvent → Step
  OfEntry : ListEntry → Step

abbrev pub events_as_steps : List LogEvent → List Step
events_as_steps events = map (λ event. OfEvent event) events

abbrev pub entries_as_steps : List ListEntry → List Step
entries_as_steps entries = map (λ entry. OfEntry entry) entries

-- The steps of a boot.
abbrev pub steps_of : List LogEvent → List ListEntry → List Step
steps_of events entries = events_as_steps events ++ entries_as_steps entries

-- ---- registers

-- What a step extends a register of a bank with, if anything.
abbrev pub digest_of_step : Alg → ℕ → Step → Option (List ℕ)
digest_of_step alg register (OfEvent event) = if is_extended_into register event then digest_in event.digests alg else None
digest_of_step alg register (OfEntry entry) = if entry.register == register then Some (bank_digest entry alg) else None

-- A register's value after one more step.
abbrev pub stepped : Alg → ℕ → List ℕ → Step → List ℕ
stepped alg register value step = extended_by alg (digest_of_step alg register step) value

-- A register's value, if there is one, after these steps.
abbrev pub value_after : Alg → ℕ → Option (List ℕ) → List Step → Option (List ℕ)
value_after alg register start steps = option_map (λ value. fold (stepped alg register) value steps) start

-- Whether a log with banks of these algorithms has the register.
abbrev pub has_register : AlgSet → Alg → ℕ → Bool
has_register algs alg register = has_alg algs alg && nat_lt register register_count

-- The register before the first step: its reset value for the locality that the whole log states.
abbrev pub pcr_at_reset : AlgSet → List LogEvent → Alg → ℕ → Option (List ℕ)
pcr_at_reset algs events alg register =
    if has_register algs alg register then Some (reset_value alg register (startup_locality events)) else None

-- ---- prefixes

-- The prefixes of a list, the shortest first.
abbrev pub prefixes : {A : Type 0} → List A → List (List A)
prefixes [] = [] ∷ []
prefixes (x ∷ xs) = [] ∷ map (λ prefix. x ∷ prefix) (prefixes xs)

-- The least prefix that passes the test, if any.
abbrev pub least_prefix : {A : Type 0} → (List A → Bool) → List A → Option (List A)
least_prefix test xs = find test (prefixes xs)
