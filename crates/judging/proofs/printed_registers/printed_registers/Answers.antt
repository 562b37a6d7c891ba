use Rattle.std.proofs.Common.{inl, inr}
use Rattle.std.proofs.lemmas.Result.{err_from_is_err_and}
use Rattle.judging.specs.Requests.{held_bytes}
use Rattle.judging.specs.declared.request.Answer.TheVariants as answers
use Rattle.judging.proofs.printed_registers.printed_registers.Goals as goal

pub returns-in_err-selection-clause-fault : goal.returns-in_err-selection-clause-fault
returns-in_err-selection-clause-fault g c =
    let p = err_from_is_err_and c.from_residual.result c.from_residual.ensures.1 in rw (p.1, p.2) (inl c.in_err-selection.ensures.fault)

pub returns-in_err-text-clause-fault : goal.returns-in_err-text-clause-fault
returns-in_err-text-clause-fault g c =
    let p = err_from_is_err_and c.from_residual-in_err-text.result c.from_residual-in_err-text.ensures.1 in
    rw (p.1, p.2) (inr (c.in_ok-selection.selection, c.in_ok-selection.ensures.selected, inl c.in_err-text.ensures.fault))

pub returns-in_err-expected-clause-fault : goal.returns-in_err-expected-clause-fault
returns-in_err-expected-clause-fault g c =
    let p = err_from_is_err_and c.from_residual-in_err-expected.result c.from_residual-in_err-expected.ensures.1 in
    rw (p.1, p.2) (inr (
      c.in_ok-selection.selection,
      c.in_ok-selection.ensures.selected,
      inr (
        held_bytes c.in_ok-text.text,
        c.in_ok-text.ensures.all,
        rw (c.bytes.ensures, c.as_ref.ensures.value) at c.in_err-expected.ensures.fault,
      ),
    ))

pub returns-clause-answer : goal.returns-clause-answer
returns-clause-answer g c = (
  answers.Expected c.in_ok-expected.expected,
  (
    c.in_ok-selection.selection,
    c.in_ok-selection.ensures.selected,
    (held_bytes c.in_ok-text.text, c.in_ok-text.ensures.all, rw (c.bytes.ensures, c.as_ref.ensures.value) at c.in_ok-expected.ensures.expected),
  ),
  c.alone.ensures,
)
