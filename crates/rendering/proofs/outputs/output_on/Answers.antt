use Rattle.std.proofs.Common.{refl, inl, inr}
use Rattle.std.proofs.lemmas.Result.{err_from_is_err_and}
use Rattle.rendering.proofs.outputs.output_on.Goals as goal

pub returns-in_err-given-clause-fault : goal.returns-in_err-given-clause-fault
returns-in_err-given-clause-fault c =
    let p = err_from_is_err_and c.from_residual.result c.from_residual.ensures.1 in rw (p.1, p.2) (inl c.in_err-given.ensures.fault)

pub returns-in_err-output-clause-fault : goal.returns-in_err-output-clause-fault
returns-in_err-output-clause-fault c =
    let p = err_from_is_err_and c.from_residual-in_err-output.result c.from_residual-in_err-output.ensures.1 in
    rw (p.1, p.2) (inr (refl, (c.in_ok-given.given, c.in_ok-given.ensures.answer)))

pub returns-in_err-checkpoint-clause-fault : goal.returns-in_err-checkpoint-clause-fault
returns-in_err-checkpoint-clause-fault c =
    let p = err_from_is_err_and c.from_residual-in_err-checkpoint.result c.from_residual-in_err-checkpoint.ensures.1 in
    rw (p.1, p.2) (inr (refl, (c.in_ok-given.given, c.in_ok-given.ensures.answer)))

pub returns-clause-shown : goal.returns-clause-shown
returns-clause-shown c = (
  c.in_ok-given.given.next,
  record {
    given = c.in_ok-given.given;
    answer = c.in_ok-given.ensures.answer;
    text_is = c.in_ok-output.ensures.text;
    status_is = c.in_ok-output.ensures.status;
    next_is = refl;
  },
  c.in_ok-checkpoint.ensures,
  c.of-summary.ensures,
)
