use Rattle.std.proofs.Common.{arith}
use Rattle.signed_messages.proofs.PlainLaws.{found, given}
use Rattle.signed_messages.proofs.plain.plain_numbers.Goals as goal

pub returns : goal.returns
returns c = record {
  found = found _ c.args.bytes.now c.plain_in.result (λ i. omega (arith, c.type_inv.bytes i)) c.plain_in.ensures;
  only = λ r s is. given _ c.args.bytes.now c.plain_in.result r s c.plain_in.ensures is;
}
