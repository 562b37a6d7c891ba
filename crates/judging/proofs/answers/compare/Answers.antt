use Rattle.std.proofs.Common.{inr, sym, ◌∙◌}
use Rattle.judging.proofs.AttestLaws.{of_fault}
use Rattle.judging.proofs.answers.compare.Goals as goal

pub returns-then-takes_known-clause-fault : goal.returns-then-takes_known-clause-fault
returns-then-takes_known-clause-fault g c =
    of_fault c.compare_as_asked.result _ _ (λ fault is. inr (sym c.takes_known.ensures ∙ c.if-takes_known.true, is)) c.compare_as_asked.ensures.fault
