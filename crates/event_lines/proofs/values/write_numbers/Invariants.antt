use Rattle.std.proofs.Common.{length, map}
use Rattle.event_data.specs.Names.{numbers_in, numbers_left}
use Rattle.event_lines.specs.ValueJson.{option_number_json}
use Rattle.cells.proofs.WrittenLaws.{HasLeft}
use Rattle.event_lines.proofs.values.write_numbers.Given as goal

abbrev pub invariant-loop-number : goal.invariant-loop-number
invariant-loop-number l =
    HasLeft l.initial.writer l.writer (map option_number_json (numbers_in (numbers_left l.left)).0)
    (map option_number_json (numbers_in (numbers_left l.order)).0)

abbrev pub decreases-loop-number : goal.decreases-loop-number
decreases-loop-number l = length (numbers_left l.left)
