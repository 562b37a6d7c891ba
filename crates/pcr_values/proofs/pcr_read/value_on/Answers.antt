use Rattle.pcr_banks.specs.Names.{name_of}
use Rattle.pcr_values.proofs.LineLaws.{if_none}
use Rattle.pcr_values.proofs.PcrReadLaws.{after_columns, no_value_in}
use Rattle.pcr_values.proofs.pcr_read.value_on.Goals as goal

pub returns-in_err-text-clause-found : goal.returns-in_err-text-clause-found
returns-in_err-text-clause-found c = rw c.from_residual.ensures tt

pub returns-in_err-register-clause-found : goal.returns-in_err-register-clause-found
returns-in_err-register-clause-found c = rw c.from_residual-in_err-register.ensures tt

pub returns-in_err-digits-clause-found : goal.returns-in_err-digits-clause-found
returns-in_err-digits-clause-found c = rw c.from_residual-in_err-digits.ensures tt

pub returns-in_err-value-clause-found : goal.returns-in_err-value-clause-found
returns-in_err-value-clause-found c = rw c.from_residual-in_err-value.ensures tt

pub returns-clause-none : goal.returns-clause-none
returns-clause-none c = tt

pub returns-in_err-digits-clause-none : goal.returns-in_err-digits-clause-none
returns-in_err-digits-clause-none c =
    if_none c.from_residual-in_err-digits.result _
    (λ e is. c.in_err-digits.ensures.none is.digits
    (after_columns (name_of c.args.alg) c.args.line.now c.in_ok-text.text.now c.in_ok-register.rest.now c.in_ok-register.register e
    c.in_ok-register.ensures.found.0 c.in_ok-text.ensures.found c.in_ok-register.ensures.found.1 is))

pub returns-in_err-value-clause-none : goal.returns-in_err-value-clause-none
returns-in_err-value-clause-none c =
    if_none c.from_residual-in_err-value.result _
    (λ e is. no_value_in c.args.line.now c.in_ok-text.text.now c.in_ok-register.rest.now c.in_ok-digits.digits.now c.in_ok-register.register
    c.args.alg e c.in_ok-register.ensures.found.0 c.in_ok-text.ensures.found c.in_ok-register.ensures.found.1 c.in_ok-digits.ensures.found
    (λ both. let bad = c.in_err-value.ensures.found.1 both in absurd cc) is)
