use Rattle.std.proofs.Common.{Err, ap, inl, inr}
use Rattle.std.proofs.lemmas.Result.{err_from_is_err_and}
use Rattle.pcr_values.specs.declared.expected.ExpectFault.{ExpectFault}
use Rattle.judging.proofs.TextLaws.{not_expected}
use Rattle.judging.proofs.answers.evidence_of.Goals as goal

pub returns-in_err-expected-clause-fault : goal.returns-in_err-expected-clause-fault
returns-in_err-expected-clause-fault g c =
    let p = err_from_is_err_and c.from_residual-in_err-expected.result c.from_residual-in_err-expected.ensures.1 in
    let why = not_expected _ _ _ c.in_err-expected.ensures.fault (λ same. c.in_err-expected.ensures.memory (ap (λ (f : ExpectFault). Err f) same)) p.2 in
    rw p.1 (inr (inr (inl (_, rw c.in_ok-log.ensures.inputs at c.in_ok-text.ensures.all, rw c.bytes.ensures at why))))

pub returns-in_err-state-clause-fault : goal.returns-in_err-state-clause-fault
returns-in_err-state-clause-fault g c =
    let p = err_from_is_err_and c.from_residual-in_err-state.result c.from_residual-in_err-state.ensures.1 in
    rw (p.1, p.2)
    (inr (inr (inr (inl (
      (_, (_, rw c.in_ok-log.ensures.inputs at c.in_ok-text.ensures.all, rw c.bytes.ensures at c.in_ok-expected.ensures.found)),
      rw (c.in_ok-text.ensures.inputs, c.in_ok-log.ensures.inputs) at c.in_err-state.ensures.fault,
    )))))

pub returns-in_err-known_files-clause-fault : goal.returns-in_err-known_files-clause-fault
returns-in_err-known_files-clause-fault g c =
    let p = err_from_is_err_and c.from_residual-in_err-known_files.result c.from_residual-in_err-known_files.ensures.1 in
    let why = rw (c.in_ok-state.ensures.inputs, c.in_ok-text.ensures.inputs, c.in_ok-log.ensures.inputs) at c.in_err-known_files.ensures.fault in
    rw (p.1, p.2)
    (inr (inr (inr (inr (
      (_, (_, rw c.in_ok-log.ensures.inputs at c.in_ok-text.ensures.all, rw c.bytes.ensures at c.in_ok-expected.ensures.found)),
      (c.in_ok-state.state, rw (c.in_ok-text.ensures.inputs, c.in_ok-log.ensures.inputs) at c.in_ok-state.ensures.state),
      why,
    )))))
