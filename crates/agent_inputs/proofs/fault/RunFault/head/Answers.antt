use Rattle.agent_inputs.proofs.fault.RunFault.head.Goals as goal

pub returns-in-Known : goal.returns-in-Known
returns-in-Known c = rw c.in-Known.is (c.head_of_known.ensures c.in-Known.file)
