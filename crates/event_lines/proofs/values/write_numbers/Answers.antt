use Rattle.std.proofs.Common.{ℕ, List, ap, map}
use Rattle.event_lines.specs.ValueJson.{option_number_json}
use Rattle.cells.proofs.WrittenLaws.{none_left, one_item, some_written}
use Rattle.event_lines.proofs.values.write_numbers.Goals as goal

pub loop-number-preserved : goal.loop-number-preserved
loop-number-preserved c =
    some_written (ap (λ (taken : List ℕ × List ℕ). map option_number_json taken.0) (rw c.in-Some.is at c.next_number.ensures.more))
    c.loop-number.invariant (one_item c.in_ok-write_option_number.ensures)

pub returns : goal.returns
returns c =
    none_left (ap (λ (taken : List ℕ × List ℕ). map option_number_json taken.0) (rw c.in_default.is at c.next_number.ensures.last))
    c.loop-number.invariant
