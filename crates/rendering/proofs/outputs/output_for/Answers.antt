use Rattle.std.proofs.Common.{refl, inl, inr}
use Rattle.std.proofs.lemmas.Result.{err_from_is_err_and}
use Rattle.rendering.proofs.outputs.output_for.Goals as goal

pub returns-in_err-given-clause-fault : goal.returns-in_err-given-clause-fault
returns-in_err-given-clause-fault g c =
    let p = err_from_is_err_and c.from_residual.result c.from_residual.ensures.1 in rw (p.1, p.2) (inl (inl c.in_err-given.ensures.fault))

pub returns-in_err-save-clause-fault : goal.returns-in_err-save-clause-fault
returns-in_err-save-clause-fault g c =
    let p = err_from_is_err_and c.from_residual-in_err-save.result c.from_residual-in_err-save.ensures.1 in
    rw (p.1, p.2) (inr (c.in_ok-given.given, c.in_ok-given.ensures.answer, c.in_err-save.ensures.fault))

pub returns-in_err-output-clause-fault : goal.returns-in_err-output-clause-fault
returns-in_err-output-clause-fault g c =
    let p = err_from_is_err_and c.from_residual-in_err-output.result c.from_residual-in_err-output.ensures.1 in
    rw (p.1, p.2) (inl (inr (refl, (c.in_ok-given.given, c.in_ok-given.ensures.answer))))

pub returns-clause-shown : goal.returns-clause-shown
returns-clause-shown g c = (
  c.in_ok-given.given.next,
  record {
    given = c.in_ok-given.given;
    answer = c.in_ok-given.ensures.answer;
    text_is = c.in_ok-output.ensures.text;
    status_is = c.in_ok-output.ensures.status;
    next_is = refl;
  },
  rw c.in_ok-given.ensures.replaced at c.in_ok-save.ensures.saved,
)

pub returns-clause-summary : goal.returns-clause-summary
returns-clause-summary g c = (c.in_ok-given.given, c.in_ok-given.ensures.answer, c.of-summary.ensures)
