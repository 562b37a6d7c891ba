use Rattle.std.proofs.Common.{inl, inr}
use Rattle.std.proofs.lemmas.Result.{err_from_is_err_and}
use Rattle.judging.specs.Answering.{evidence_of}
use Rattle.judging.proofs.answers.compare_as_asked.Goals as goal

pub returns-in_err-evidence-clause-fault : goal.returns-in_err-evidence-clause-fault
returns-in_err-evidence-clause-fault g c =
    let p = err_from_is_err_and c.from_residual-in_err-evidence.result c.from_residual-in_err-evidence.ensures.1 in
    rw (p.1, p.2) (inr (inl ((_, c.in_ok-requirement.ensures.required), c.in_err-evidence.ensures.fault)))

pub returns-in_err-found-clause-fault : goal.returns-in_err-found-clause-fault
returns-in_err-found-clause-fault g c =
    let p = err_from_is_err_and c.from_residual-in_err-found.result c.from_residual-in_err-found.ensures.1 in
    rw (p.1, p.2)
    (inr (inr (
      evidence_of c.in_ok-evidence.evidence,
      c.in_ok-evidence.ensures.evidence,
      rw c.in_ok-evidence.ensures.inputs at c.in_err-found.ensures.found,
    )))

pub returns-clause-answer : goal.returns-clause-answer
returns-clause-answer g c = record {
  evidence = evidence_of c.in_ok-evidence.evidence;
  next = c.in_ok-found.found.next;
  takes = c.requires;
  evidence_is = c.in_ok-evidence.ensures.evidence;
  requirement_is = c.answered_with.ensures.requirement;
  judged = rw (c.answered_with.ensures.answer, c.answered_with.ensures.unknown) (rw c.in_ok-evidence.ensures.inputs at c.in_ok-found.ensures.found);
  success_is = rw (c.answered_with.ensures.answer, c.answered_with.ensures.requirement, c.answered_with.ensures.unknown) c.answered_with.ensures.success;
  next_is = c.answered_with.ensures.next;
}
