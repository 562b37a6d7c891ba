-- The rows before a log's events and after them.
use Rattle.std.specs.Prelude.{◌≡◌, ℕ, if◌then◌else◌, List, length, map, Option, Some, None}
use Rattle.std.specs.List.{AllByRecursion}
use Rattle.pcr_banks.specs.declared.banks.Banks.{Banks}
use Rattle.pcr_banks.specs.declared.sets.AlgSet.{AlgSet}
use Rattle.pcr_banks.specs.Names.{value_at}
use Rattle.pcr_values.specs.declared.expected.Expected.{Expected}
use Rattle.boot_log.specs.Names.{LogEvent}
use Rattle.boot_verdict.specs.declared.steps.Located.{Located}
use Rattle.boot_verdict.specs.declared.steps.Position.{Position}
use Rattle.boot_verdict.specs.declared.steps.Position.TheVariants.{Reset, Nowhere, Absent}
use Rattle.boot_verdict.specs.declared.steps.RowTracker.{RowTracker}
use Rattle.boot_verdict.specs.Verdicts.{is_value}
use Rattle.boot_verdict.specs.Steps.{events_as_steps, pcr_at_reset}
use Rattle.boot_verdict.specs.parts.RowTrackers.{IsRowTrackerAfter}

-- The position of a register with this reset value.
abbrev pub position_at_reset : Expected → Option (List ℕ) → Position
position_at_reset expected None = Absent
position_at_reset expected (Some value) = if is_value expected value then Reset else Nowhere

-- The row of an expected register, before the first event.
abbrev pub row_at_reset : Banks → Expected → Located
row_at_reset start expected =
    record { expected = expected; position = position_at_reset expected (value_at start expected.alg expected.register) }

-- The expected registers have their reset values, where the log has their banks.
abbrev pub AreAtReset : AlgSet → List LogEvent → List Expected → Banks → Type 0
AreAtReset algs events expected banks = AllByRecursion (λ e. value_at banks e.alg e.register ≡ pcr_at_reset algs events e.alg e.register) expected

-- The log's events were tracked from the reset values.
pub record IsTracked (algs : AlgSet) (events : List LogEvent) (expected : List Expected) (tracker : RowTracker) : Type 0 where
  pub start : RowTracker
  pub reset : AreAtReset algs events expected start.banks
  pub rows : start.rows.items ≡ map (row_at_reset start.banks) expected
  pub after : IsRowTrackerAfter start (length events) (events_as_steps events) tracker
