use Rattle.pcr_values.proofs.RegisterLaws.{every_at}
use Rattle.pcr_values.proofs.all_registers.register_numbered.Goals as goal

pub returns : goal.returns
returns c = every_at c.args.number c.requires
