use Rattle.pcr_values.proofs.LineLaws.{if_none}
use Rattle.pcr_values.proofs.SelectionLaws.{no_alg, no_colon, no_range}
use Rattle.pcr_values.proofs.selection.BankRange.from_text.Goals as goal

pub returns-in_err-range-clause-none : goal.returns-in_err-range-clause-none
returns-in_err-range-clause-none c =
    if_none c.from_residual.result _
    (λ bank is. no_colon c.args.before c.args.text.now bank c.in_default.ensures.none c.in_err-range.ensures.none is)

pub returns-in_err-alg-clause-none : goal.returns-in_err-alg-clause-none
returns-in_err-alg-clause-none c =
    if_none c.from_residual-in_err-alg.result _
    (λ bank is. no_alg c.args.before c.args.text.now c.in-Some.name.now c.in-Some.registers.now bank c.in-Some.ensures.cut
    c.in_err-alg.ensures.unknown is)

pub returns-in_err-range-2-clause-none : goal.returns-in_err-range-2-clause-none
returns-in_err-range-2-clause-none c =
    if_none c.from_residual-in_err-range-2.result _
    (λ bank is. no_range c.args.before c.args.text.now c.in-Some.name.now c.in-Some.registers.now bank c.in-Some.ensures.cut
    c.in_err-range-2.ensures.none is)
