use Rattle.std.proofs.Common.{ℕ, List, Bor, ap, ◌∙◌}
use Rattle.pcr_values.proofs.LineLaws.{if_none}
use Rattle.pcr_values.proofs.PcrReadLaws.{columns_prefix, columns_stripped}
use Rattle.pcr_values.proofs.pcr_read.columns_at.Goals as goal

pub returns-in_err-number-clause-found : goal.returns-in_err-number-clause-found
returns-in_err-number-clause-found c = rw c.from_residual.ensures tt

pub returns-in_err-register-clause-found : goal.returns-in_err-register-clause-found
returns-in_err-register-clause-found c = rw c.from_residual-in_err-register.ensures tt

pub returns-clause-none : goal.returns-clause-none
returns-clause-none c = tt

pub returns-in_err-register-clause-none : goal.returns-in_err-register-clause-none
returns-in_err-register-clause-none c =
    if_none c.from_residual-in_err-register.result _
    (λ register rest lt is.
    let columns = c.in_ok-number.ensures.cases.1 ∙ columns_prefix c.args.text.now rest register lt is in
    let stripped = columns_stripped c.in_ok-number.number c.before_suffix.result register lt columns
    c.before_suffix.ensures.found c.before_suffix.ensures.none in
    c.in_err-register.ensures.none register lt (ap (λ (b : Bor (List ℕ)). b.now) c.unwrap_or.ensures ∙ stripped))
