use Rattle.std.proofs.Common.{None, refl}
use Rattle.pcr_banks.specs.Names.{value_at}
use Rattle.growing_lists.proofs.texts.checkpoint.write_value.Goals as goal

pub returns : goal.returns
returns g c =
    c.write_change.ensures c.args.alg None (value_at c.args.banks.now c.args.alg c.args.register) refl c.read.ensures.value
