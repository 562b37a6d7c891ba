use Rattle.pcr_values.proofs.texts.registers.write_register.Goals as goal

pub returns : goal.returns
returns g c = c.write_change.ensures c.args.alg _ _ c.read.ensures.value c.read-2.ensures.value
