use Rattle.std.proofs.Common.{length, map}
use Rattle.event_data.specs.Names.{gpt_of, partitions_left}
use Rattle.event_lines.specs.ContentJson.{partition_json}
use Rattle.cells.proofs.WrittenLaws.{HasLeft}
use Rattle.event_lines.proofs.contents.write_partitions.Given as goal

abbrev pub invariant-loop-partition : goal.invariant-loop-partition
invariant-loop-partition l =
    HasLeft l.initial.writer l.writer (map partition_json (partitions_left l.left)) (map partition_json (gpt_of l.gpt).partitions)

abbrev pub decreases-loop-partition : goal.decreases-loop-partition
decreases-loop-partition l = length (partitions_left l.left)
