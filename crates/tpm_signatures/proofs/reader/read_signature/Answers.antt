use Rattle.std.proofs.Common.{arith}
use Rattle.tpm_signatures.proofs.SignatureLaws.{found, given, refused}
use Rattle.tpm_signatures.proofs.reader.read_signature.Goals as goal

pub returns : goal.returns
returns c = record {
  found = found c.args.bytes.now c.signature_in.result (λ i. omega (arith, c.type_inv.bytes i)) c.signature_in.ensures;
  only = λ signature is. given c.args.bytes.now c.signature_in.result signature c.signature_in.ensures is;
  fault = refused c.args.bytes.now c.signature_in.result c.signature_in.ensures;
}
