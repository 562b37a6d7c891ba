-- That a log and a list extend different registers, so that each register's value is by one of the two alone. This is this project's choice.
use Rattle.std.specs.Prelude.{◌≡◌, ℕ, ◌+◌, ◌==◌, ◌&&◌, not, Bool, false, if◌then◌else◌, List, [], ◌∷◌, Option, Some, None, is_some}
use Rattle.std.specs.List.{AllByRecursion}
use Rattle.boot_log.specs.Names.{LogEvent, is_extended_into}
use Rattle.ima_list.specs.Names.{ListEntry}
use Rattle.boot_verdict.specs.declared.isolation.Stray.{Stray}
use Rattle.boot_verdict.specs.declared.isolation.Strays.{Strays}

-- The register that IMA extends, and nothing else does (Linux, security/integrity/ima/Kconfig, IMA_MEASURE_PCR_IDX, whose default is 10).
abbrev pub list_register : ℕ
list_register = 10

-- No event of the log extends the list's register, and no entry of the list extends another.
abbrev pub IsLogApart : List LogEvent → Type 0
IsLogApart events = AllByRecursion (λ event. is_extended_into list_register event ≡ false) events

abbrev pub IsListApart : List ListEntry → Type 0
IsListApart entries = AllByRecursion (λ entry. entry.register ≡ list_register) entries

-- The number of the first event that extends the list's register, where the first of these has the number `n`.
abbrev pub extending_from : ℕ → List LogEvent → Option ℕ
extending_from n [] = None
extending_from n (event ∷ events) = if is_extended_into list_register event then Some n else extending_from (n + 1) events

-- The first such event of a log: events count from 1.
abbrev pub first_extending : List LogEvent → Option ℕ
first_extending events = extending_from 1 events

-- The first entry that extends another register, where the first of these has the number `n`.
abbrev pub stray_from : ℕ → List ListEntry → Option Stray
stray_from n [] = None
stray_from n (entry ∷ entries) =
    if entry.register == list_register then stray_from (n + 1) entries else Some (record { entry = n; register = entry.register })

-- The first such entry of a list: entries count from 0.
abbrev pub first_stray : List ListEntry → Option Stray
first_stray entries = stray_from 0 entries

-- What of a log and a list extends a register that is the other's.
abbrev pub strays_of : List LogEvent → List ListEntry → Strays
strays_of events entries = record { event = first_extending events; entry = first_stray entries }

-- Whether nothing does: log and list are apart.
abbrev pub are_none : Strays → Bool
are_none strays = not (is_some strays.event) && not (is_some strays.entry)
