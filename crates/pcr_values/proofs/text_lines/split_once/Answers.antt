use Rattle.pcr_values.proofs.text_lines.split_once.Goals as goal

pub returns-in_err-at-clause-cut : goal.returns-in_err-at-clause-cut
returns-in_err-at-clause-cut c = rw c.from_residual.ensures tt

pub returns-clause-none : goal.returns-clause-none
returns-clause-none c = tt
