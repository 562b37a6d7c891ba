use Rattle.std.proofs.Common.{arith}
use Rattle.agent_inputs.proofs.opening.bytes_fit.Goals as goal

pub returns : goal.returns
returns c = λ i. omega (arith, c.type_inv.bytes i)
