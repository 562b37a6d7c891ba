use Rattle.std.proofs.Common.{inl, inr, refl}
use Rattle.std.proofs.lemmas.Result.{err_from_is_err_and}
use Rattle.ima_agent.proofs.convert.converted_for.Goals as goal

pub returns-in_err-content-clause-shown : goal.returns-in_err-content-clause-shown
returns-in_err-content-clause-shown g c =
    let p = err_from_is_err_and c.from_residual.result c.from_residual.ensures.1 in rw p.1 tt

pub returns-in_err-content-clause-fault : goal.returns-in_err-content-clause-fault
returns-in_err-content-clause-fault g c =
    let p = err_from_is_err_and c.from_residual.result c.from_residual.ensures.1 in
    rw (p.1, p.2) (inl (rw (c.opened_name.ensures, c.deref.ensures) at c.in_err-content.ensures.fault))

pub returns-in_err-text-clause-shown : goal.returns-in_err-text-clause-shown
returns-in_err-text-clause-shown g c =
    let p = err_from_is_err_and c.from_residual-in_err-text.result c.from_residual-in_err-text.ensures.1 in rw p.1 tt

pub returns-in_err-text-clause-fault : goal.returns-in_err-text-clause-fault
returns-in_err-text-clause-fault g c =
    let p = err_from_is_err_and c.from_residual-in_err-text.result c.from_residual-in_err-text.ensures.1 in
    rw (p.1, p.2)
    (inr (
      c.in_ok-content.content.items,
      rw (c.opened_name.ensures, c.deref.ensures) at c.in_ok-content.ensures.all,
      rw c.deref-2.ensures.value at c.in_err-text.ensures.fault,
    ))

pub returns-clause-shown : goal.returns-clause-shown
returns-clause-shown g c = (
  (
    (
      c.in_ok-content.content.items,
      rw (c.opened_name.ensures, c.deref.ensures) at c.in_ok-content.ensures.all,
      rw c.deref-2.ensures.value at c.in_ok-text.ensures.text,
    ),
    refl,
  ),
  c.in_ok-content.ensures.replaced,
)
