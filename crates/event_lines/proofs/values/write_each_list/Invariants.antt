use Rattle.std.proofs.Common.{length, map}
use Rattle.event_data.specs.Names.{lists_in, lists_left}
use Rattle.event_lines.specs.ValueJson.{list_json}
use Rattle.cells.proofs.WrittenLaws.{HasLeft}
use Rattle.event_lines.proofs.values.write_each_list.Given as goal

abbrev pub invariant-loop-list : goal.invariant-loop-list
invariant-loop-list l =
    HasLeft l.initial.writer l.writer (map list_json (lists_in (lists_left l.left)).0) (map list_json (lists_in (lists_left l.lists)).0)

abbrev pub decreases-loop-list : goal.decreases-loop-list
decreases-loop-list l = length (lists_left l.left)
