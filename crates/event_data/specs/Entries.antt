-- What contracts see of a partition.
use Rattle.event_data.specs.declared.gpt.Partition.{Partition}
use Rattle.event_data.specs.GptForms.{PartitionData}

abbrev pub partition_of : Partition → PartitionData
partition_of partition = record {
  kind = partition.kind.now;
  guid = partition.guid.now;
  first = partition.first;
  last = partition.last;
  attributes = partition.attributes;
  name = partition.name.now;
}
