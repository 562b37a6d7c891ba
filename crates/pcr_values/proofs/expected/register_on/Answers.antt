use Rattle.pcr_values.proofs.LineLaws.{if_none}
use Rattle.pcr_values.proofs.ExpectedLaws.{line_has_space, no_number, no_alg, no_register, no_value}
use Rattle.pcr_values.proofs.expected.register_on.Goals as goal

pub returns-in_err-name-clause-found : goal.returns-in_err-name-clause-found
returns-in_err-name-clause-found c = rw c.from_residual.ensures tt

pub returns-in_err-number-clause-found : goal.returns-in_err-number-clause-found
returns-in_err-number-clause-found c = rw c.from_residual-in_err-number.ensures tt

pub returns-in_err-alg-clause-found : goal.returns-in_err-alg-clause-found
returns-in_err-alg-clause-found c = rw c.from_residual-in_err-alg.ensures tt

pub returns-in_err-register-clause-found : goal.returns-in_err-register-clause-found
returns-in_err-register-clause-found c = rw c.from_residual-in_err-register.ensures tt

pub returns-in_err-value-clause-found : goal.returns-in_err-value-clause-found
returns-in_err-value-clause-found c = rw c.from_residual-in_err-value.ensures tt

pub returns-clause-none : goal.returns-clause-none
returns-clause-none c = tt

pub returns-in_err-name-clause-none : goal.returns-in_err-name-clause-none
returns-in_err-name-clause-none c =
    if_none c.from_residual.result _ (λ e is. line_has_space c.args.line.now e c.in_err-name.ensures.none is)

pub returns-in_err-number-clause-none : goal.returns-in_err-number-clause-none
returns-in_err-number-clause-none c =
    if_none c.from_residual-in_err-number.result _
    (λ e is. no_number c.args.line.now c.in_ok-name.name.now c.in_ok-name.rest.now e c.in_ok-name.ensures.cut c.in_err-number.ensures.none is)

pub returns-in_err-alg-clause-none : goal.returns-in_err-alg-clause-none
returns-in_err-alg-clause-none c =
    if_none c.from_residual-in_err-alg.result _
    (λ e is. no_alg c.args.line.now c.in_ok-name.name.now c.in_ok-name.rest.now e c.in_ok-name.ensures.cut c.in_err-alg.ensures.unknown is)

pub returns-in_err-register-clause-none : goal.returns-in_err-register-clause-none
returns-in_err-register-clause-none c =
    if_none c.from_residual-in_err-register.result _
    (λ e is. no_register c.args.line.now c.in_ok-name.name.now c.in_ok-name.rest.now c.in_ok-number.number.now c.in_ok-number.digits.now e
    c.in_ok-name.ensures.cut c.in_ok-number.ensures.cut c.in_err-register.ensures.none is)

pub returns-in_err-value-clause-none : goal.returns-in_err-value-clause-none
returns-in_err-value-clause-none c =
    if_none c.from_residual-in_err-value.result _
    (λ e is. no_value c.args.line.now c.in_ok-name.name.now c.in_ok-name.rest.now c.in_ok-number.number.now c.in_ok-number.digits.now
    c.in_ok-alg.alg e c.in_ok-name.ensures.cut c.in_ok-number.ensures.cut c.in_ok-alg.ensures.found
    (λ both. let bad = c.in_err-value.ensures.found.1 both in absurd cc) is)
