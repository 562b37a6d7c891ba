use Rattle.pcr_values.proofs.pcr_read.bank_on.Goals as goal

pub returns-in_err-rest-clause-found : goal.returns-in_err-rest-clause-found
returns-in_err-rest-clause-found c = rw c.from_residual.ensures tt

pub returns-in_err-name-clause-found : goal.returns-in_err-name-clause-found
returns-in_err-name-clause-found c = rw c.from_residual-in_err-name.ensures tt
