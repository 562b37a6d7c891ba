use Rattle.std.proofs.Common.{inr, refl}
use Rattle.pcr_values.proofs.expected.add_register.Goals as goal

pub returns-then-is_among-clause-fault : goal.returns-then-is_among-clause-fault
returns-then-is_among-clause-fault c = inr (refl, cc)
