use Rattle.std.proofs.Common.{List, ap, map}
use Rattle.event_data.specs.Names.{PartitionData}
use Rattle.event_lines.specs.ContentJson.{partition_json}
use Rattle.cells.proofs.WrittenLaws.{none_left, one_item, some_written}
use Rattle.event_lines.proofs.contents.write_partitions.Goals as goal

pub loop-partition-preserved : goal.loop-partition-preserved
loop-partition-preserved c =
    some_written (ap (λ (ps : List PartitionData). map partition_json ps) (rw c.in-Some.is at c.next_partition.ensures.more)) c.loop-partition.invariant
    (one_item c.in_ok-write_partition.ensures)

pub returns : goal.returns
returns c =
    none_left (ap (λ (ps : List PartitionData). map partition_json ps) (rw c.in_default.is at c.next_partition.ensures.last).0)
    c.loop-partition.invariant
