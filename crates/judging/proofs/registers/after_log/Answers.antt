use Rattle.std.proofs.Common.{inl, inr}
use Rattle.std.proofs.lemmas.Result.{err_from_is_err_and}
use Rattle.judging.specs.Requests.{held_bytes}
use Rattle.judging.specs.declared.request.Answer.TheVariants as answers
use Rattle.judging.proofs.registers.after_log.Goals as goal

pub returns-in_err-log-clause-fault : goal.returns-in_err-log-clause-fault
returns-in_err-log-clause-fault g c =
    let p = err_from_is_err_and c.from_residual.result c.from_residual.ensures.1 in rw (p.1, p.2) (inl c.in_err-log.ensures.fault)

pub returns-in_err-view-clause-fault : goal.returns-in_err-view-clause-fault
returns-in_err-view-clause-fault g c =
    let p = err_from_is_err_and c.from_residual-in_err-view.result c.from_residual-in_err-view.ensures.1 in
    rw p.1
    (inr (
      held_bytes c.in_ok-log.log,
      c.in_ok-log.ensures.all,
      record {
        first = _;
        first_is = rw c.bytes.ensures at c.in_err-view.ensures.fault;
        says = p.2;
      },
    ))

pub returns-clause-answer : goal.returns-clause-answer
returns-clause-answer g c =
    let log = rw c.bytes.ensures at c.in_ok-view.ensures.sound in
    let same = rw c.bytes.ensures at c.in_ok-view.ensures.found in
    let reset = rw same at c.reset_registers.ensures log.0 log.1 log.2 in
    let firmware = rw same at c.registers.ensures log.0 log.1 log.2 in (
      answers.Registers (record { start = c.reset_registers.result; now = c.registers.result }),
      (held_bytes c.in_ok-log.log, c.in_ok-log.ensures.all, (log.0, log.1, log.2, reset, firmware)),
      c.alone.ensures,
    )
