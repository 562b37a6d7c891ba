use Rattle.std.proofs.Common.{length, map}
use Rattle.event_data.specs.Names.{handoff_of, pointers_in, pointers_left, tables_of}
use Rattle.event_lines.specs.ContentJson.{table_json}
use Rattle.cells.proofs.WrittenLaws.{HasLeft}
use Rattle.event_lines.proofs.contents.write_tables.Given as goal

abbrev pub invariant-loop-table : goal.invariant-loop-table
invariant-loop-table l =
    HasLeft l.initial.writer l.writer (map table_json (pointers_in (pointers_left l.left)).0) (map table_json (tables_of (handoff_of l.handoff)))

abbrev pub decreases-loop-table : goal.decreases-loop-table
decreases-loop-table l = length (pointers_left l.left)
