use Rattle.std.proofs.Common.{arith}
use Rattle.tpm_keys.proofs.AreaLaws.{found, given, refused}
use Rattle.tpm_keys.proofs.area.read_area.Goals as goal

pub returns : goal.returns
returns c = record {
  found = found c.args.bytes.now c.area_in.result (λ i. omega (arith, c.type_inv.bytes i)) c.area_in.ensures.read;
  spelled = c.area_in.ensures.spelled;
  only = λ area is. given c.args.bytes.now c.area_in.result area c.area_in.ensures.read is;
  fault = refused c.args.bytes.now c.area_in.result c.area_in.ensures.read;
}
