-- Where the values of expected registers are first reached, in a firmware log and a measurement list.
-- How events and entries change the registers is defined in boot_log and ima_list.
use Rattle.std.specs.Prelude.{◌≡◌, ℕ, ◌-◌, ◌&&◌, ◌==◌, nat_le, not, Bool, true, false, if◌then◌else◌, List, fold, length, take, map, Option, Some, None, Ok}
use Rattle.std.specs.List.{list_all}
use Rattle.pcr_banks.specs.declared.alg.Alg.{Alg}
use Rattle.pcr_banks.specs.declared.sets.AlgSet.{AlgSet}
use Rattle.pcr_values.specs.declared.expected.Expected.{Expected}
use Rattle.boot_log.specs.declared.header.DeclaredAlgorithm.{DeclaredAlgorithm}
use Rattle.boot_log.specs.Names.{IsLog, LogEvent, algs_in}
use Rattle.ima_list.specs.Names.{AreGenuine, IsReading, ListEntry}
use Rattle.boot_verdict.specs.declared.steps.Located.{Located}
use Rattle.boot_verdict.specs.declared.steps.Position.{Position}
use Rattle.boot_verdict.specs.declared.steps.Position.TheVariants.{Reset, Event, Entry, Nowhere, Absent}
use Rattle.boot_verdict.specs.ListSources.{CameWhole}
use Rattle.boot_verdict.specs.Steps.{Step, least_prefix, pcr_at_reset, stepped, steps_of, value_after}
use Rattle.boot_verdict.specs.Verdicts.{is_value}

-- ---- registers after a prefix of the steps

-- The register after the first `steps` of the log's events and then of the list's entries.
abbrev pub pcr_after : AlgSet → List LogEvent → List ListEntry → Alg → ℕ → ℕ → Option (List ℕ)
pcr_after algs events entries alg register steps =
    value_after alg register (pcr_at_reset algs events alg register) (take steps (steps_of events entries))

-- ---- positions

-- Whether a register with this value, or an absent one, has the expected value.
abbrev pub is_reached : Expected → Option (List ℕ) → Bool
is_reached expected None = false
is_reached expected (Some value) = is_value expected value

-- Whether the register has the expected value after these steps.
abbrev pub reached_after : AlgSet → List LogEvent → List ListEntry → Expected → ℕ → Bool
reached_after algs events entries expected steps =
    is_reached expected (pcr_after algs events entries expected.alg expected.register steps)

-- The position after these steps, where there are so many events. Events count from 1, as in the faults of a log, entries from 0.
abbrev pub position_after : ℕ → ℕ → Position
position_after events steps =
    if steps == 0 then Reset else if nat_le steps events then Event steps else Entry (steps - events - 1)

abbrev pub position_of_prefix : ℕ → Option (List Step) → Position
position_of_prefix events None = Nowhere
position_of_prefix events (Some prefix) = position_after events (length prefix)

-- The position of the least prefix of the steps after which a register that begins with this value has the expected one.
abbrev pub first_position : ℕ → Expected → Option (List ℕ) → List Step → Position
first_position events expected None steps = Absent
first_position events expected (Some start) steps =
    position_of_prefix events (least_prefix (λ prefix. is_value expected (fold (stepped expected.alg expected.register) start prefix)) steps)

-- The position where the register first has the expected value.
abbrev pub position_on : AlgSet → List LogEvent → List ListEntry → Expected → Position
position_on algs events entries expected =
    first_position (length events) expected (pcr_at_reset algs events expected.alg expected.register) (steps_of events entries)

-- The position of each expected register, in their order.
abbrev pub located_on : AlgSet → List LogEvent → List ListEntry → List Expected → List Located
located_on algs events entries expected = map (λ e. record { expected = e; position = position_on algs events entries e }) expected

-- The value was reached at some position.
abbrev pub is_found : Position → Bool
is_found Reset = true
is_found (Event number) = true
is_found (Entry number) = true
is_found Nowhere = false
is_found Absent = false

-- Some register is expected, and each has its value at some position.
abbrev pub all_found : List Located → Bool
all_found located = not (length located == 0) && list_all (λ row. is_found row.position) located

-- The bytes are a log and a list, each entry is genuine, and these are the positions of the expected registers.
pub record AreLocated (log list : List ℕ) (expected : List Expected) (located : List Located) : Type 0 where
  pub table : List DeclaredAlgorithm
  pub events : List LogEvent
  pub entries : List ListEntry
  pub log_is : IsLog log table events
  pub list_is : IsReading list (Ok entries)
  pub genuine : AreGenuine entries
  pub located_are : located ≡ located_on (algs_in table) events entries expected

-- The log, and all bytes that a source had left, at most `limit`, have these positions.
pub record AreLocatedFrom (log : List ℕ) (old new : Option (List ℕ)) (limit : ℕ) (expected : List Expected) (located : List Located) : Type 0 where
  pub list : List ℕ
  pub came : CameWhole old new limit list
  pub located_are : AreLocated log list expected located
