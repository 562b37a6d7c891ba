use Rattle.std.proofs.Common.{refl}
use Rattle.event_data.specs.Names.{partition_of}
use Rattle.event_data.proofs.EntryLaws.{entry_takes}
use Rattle.event_data.proofs.GptLaws.{more_left, last_left}
use Rattle.event_data.proofs.gpt.Partitions.next_partition.Goals as goal

pub returns-in-Ok-clause-more : goal.returns-in-Ok-clause-more
returns-in-Ok-clause-more c =
    more_left c.args.self.now.size c.args.self.now.rest.now (partition_of c.in-Ok.partition) c.in-Ok.rest.now c.args.self.now.wide
    c.args.self.now.fits c.in-Ok.ensures

pub returns-in-Err-clause-last : goal.returns-in-Err-clause-last
returns-in-Err-clause-last c = (last_left c.args.self.now.size c.args.self.now.rest.now c.in-Err.field-0 c.in-Err.ensures, refl)

pub invariant_of-self : goal.invariant_of-self
invariant_of-self c = record {
  wide = c.args.self.now.wide;
  fits = (entry_takes c.args.self.now.size c.args.self.now.rest.now (partition_of c.in-Ok.partition) c.in-Ok.rest.now c.args.self.now.wide
      c.args.self.now.fits c.in-Ok.ensures).rest_fits;
}
