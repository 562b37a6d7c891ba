-- What contracts see of a table of partitions, and of partitions that are lent.
use Rattle.std.specs.Prelude.{List}
use Rattle.event_data.specs.declared.gpt.Gpt.{Gpt}
use Rattle.event_data.specs.declared.gpt.Partitions.{Partitions}
use Rattle.event_data.specs.GptForms.{GptData, PartitionData}
use Rattle.event_data.specs.GptReading.{partitions_in}

abbrev pub gpt_of : Gpt → GptData
gpt_of gpt = record { disk = gpt.disk.now; partitions = partitions_in gpt.entry_size gpt.entries.now }

-- The partitions that were not lent yet.
abbrev pub partitions_left : Partitions → List PartitionData
partitions_left partitions = partitions_in partitions.size partitions.rest.now
