use Rattle.ima_verify_c.proofs.convert.converted_list.Goals as goal

pub returns-in-Err-clause-fault : goal.returns-in-Err-clause-fault
returns-in-Err-clause-fault c = (c.in-Err.fault, c.in-Err.ensures.fault, c.into.ensures)
