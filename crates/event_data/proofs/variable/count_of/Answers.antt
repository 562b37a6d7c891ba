use Rattle.std.proofs.Common.{arith}
use Rattle.byte_fields.proofs.Steps.{IsBytes}
use Rattle.event_data.proofs.ListLaws.{signatures_counted}
use Rattle.event_data.proofs.variable.count_of.Goals as goal

pub returns : goal.returns
returns c =
    let fits : IsBytes c.args.bytes.now = λ i. omega (arith, c.type_inv.bytes i) in
    signatures_counted c.args.size c.args.bytes.now fits c.requires.least c.requires.filled
