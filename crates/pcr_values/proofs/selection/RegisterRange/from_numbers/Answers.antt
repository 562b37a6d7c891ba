use Rattle.std.proofs.Common.{arith}
use Rattle.pcr_values.proofs.LineLaws.{if_none}
use Rattle.pcr_values.proofs.RangeLaws.{not_ordered, range_ends, range_spelled}
use Rattle.pcr_values.proofs.selection.RegisterRange.from_numbers.Goals as goal

pub returns-in_err-first-clause-none : goal.returns-in_err-first-clause-none
returns-in_err-first-clause-none c =
    if_none c.from_residual.result _
    (λ range is. c.in_err-first.ensures.none range.first (omega (arith, is.ordered, is.exist))
    (range_ends c.args.text.now c.ends_of.result.0.now c.ends_of.result.1.now range c.ends_of.ensures is).0)

pub returns-in_err-last-clause-none : goal.returns-in_err-last-clause-none
returns-in_err-last-clause-none c =
    if_none c.from_residual-in_err-last.result _
    (λ range is. c.in_err-last.ensures.none range.last is.exist
    (range_ends c.args.text.now c.ends_of.result.0.now c.ends_of.result.1.now range c.ends_of.ensures is).1)

pub returns-clause-found : goal.returns-clause-found
returns-clause-found c =
    range_spelled c.args.text.now c.ends_of.result.0.now c.ends_of.result.1.now (record { first = c.in_ok-first.first; last = c.in_ok-last.last })
    c.ends_of.ensures c.in_ok-first.ensures.found.1 c.in_ok-last.ensures.found.1 (omega arith) c.in_ok-last.ensures.found.0

pub returns-then-first-last-clause-none : goal.returns-then-first-last-clause-none
returns-then-first-last-clause-none c =
    λ range is. not_ordered c.args.text.now c.ends_of.result.0.now c.ends_of.result.1.now range c.in_ok-first.first c.in_ok-last.last
    c.in_ok-first.ensures.found.0 c.in_ok-last.ensures.found.0 c.ends_of.ensures c.in_ok-first.ensures.found.1 c.in_ok-last.ensures.found.1
    c.if-first-last.true is
