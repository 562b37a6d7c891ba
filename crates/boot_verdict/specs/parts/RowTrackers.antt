-- The rows whose values are sought: one look at them, and what they are after some steps.
use Rattle.std.specs.Prelude.{◌≡◌, ℕ, ◌==◌, Bool, if◌then◌else◌, List, map}
use Rattle.pcr_banks.specs.declared.banks.Banks.{Banks}
use Rattle.pcr_banks.specs.Names.{value_at}
use Rattle.pcr_values.specs.declared.expected.Expected.{Expected}
use Rattle.boot_verdict.specs.declared.steps.Located.{Located}
use Rattle.boot_verdict.specs.declared.steps.Position.{Position}
use Rattle.boot_verdict.specs.declared.steps.Position.TheVariants.{Reset, Event, Entry, Nowhere, Absent}
use Rattle.boot_verdict.specs.declared.steps.RowTracker.{RowTracker}
use Rattle.boot_verdict.specs.Tracking.{AreAfter}
use Rattle.boot_verdict.specs.Positions.{first_position, is_reached}
use Rattle.boot_verdict.specs.Steps.{Step}

-- The position after a look: `position`, if there was none and the value is reached now.
abbrev pub position_with : Position → Position → Bool → Position
position_with Nowhere position reached = if reached then position else Nowhere
position_with Reset position reached = Reset
position_with (Event number) position reached = Event number
position_with (Entry number) position reached = Entry number
position_with Absent position reached = Absent

-- The row after a look at its register in these banks.
abbrev pub looked : Banks → Position → Located → Located
looked banks position row = record {
  expected = row.expected;
  position = position_with row.position position (is_reached row.expected (value_at banks row.expected.alg row.expected.register));
}

-- The row after a look at the register that was extended.
abbrev pub looked_at : Banks → ℕ → Position → Located → Located
looked_at banks register position row = if row.expected.register == register then looked banks position row else row

-- The row of an expected register after these steps, where the log has so many events.
abbrev pub located_after : ℕ → Banks → List Step → Expected → Located
located_after events start steps expected =
    record { expected = expected; position = first_position events expected (value_at start expected.alg expected.register) steps }

-- The banks are those of `start` after these steps, and each of its rows has its position among them.
pub record IsRowTrackerAfter (start : RowTracker) (events : ℕ) (steps : List Step) (now : RowTracker) : Type 0 where
  pub banks : AreAfter start.banks steps now.banks
  pub rows : now.rows.items ≡ map (λ row. located_after events start.banks steps row.expected) start.rows.items
