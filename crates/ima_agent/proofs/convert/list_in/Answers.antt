use Rattle.ima_agent.proofs.convert.list_in.Goals as goal

pub returns-in-Err-clause-fault : goal.returns-in-Err-clause-fault
returns-in-Err-clause-fault c = (c.in-Err.fault, c.in-Err.ensures.fault, c.into.ensures)
