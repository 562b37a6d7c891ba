use Rattle.std.proofs.Common.{◌≡◌, ◌-◌, [], length, map}
use Rattle.byte_fields.specs.Reading.{items_at}
use Rattle.tpm_quotes.specs.Spelling.{selection_of}
use Rattle.tpm_quotes.specs.parts.Reading.{selection_at}
use Rattle.tpm_quotes.proofs.selection.counted_at.Given as goal

abbrev pub invariant-loop : goal.invariant-loop
invariant-loop l =
    (items_at selection_at (l.count - l.counter) (map selection_of l.selections.items) l.rest ≡ items_at selection_at l.count [] l.bytes)
    × (length l.selections.items ≡ l.counter)
