use Rattle.std.proofs.Common.{arith}
use Rattle.tpm_quotes.proofs.QuoteLaws.{found, given, refused}
use Rattle.tpm_quotes.proofs.quote.read_quote.Goals as goal

pub returns : goal.returns
returns c = record {
  found = found c.args.bytes.now c.quote_in.result (λ i. omega (arith, c.type_inv.bytes i)) c.quote_in.ensures;
  only = λ q is. given c.args.bytes.now c.quote_in.result q c.quote_in.ensures is;
  fault = refused c.args.bytes.now c.quote_in.result c.quote_in.ensures;
}
