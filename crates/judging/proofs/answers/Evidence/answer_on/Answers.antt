use Rattle.std.proofs.Common.{refl}
use Rattle.judging.proofs.answers.Evidence.answer_on.Goals as goal

pub returns-in_ok-report-in-Some-default-clause-answer : goal.returns-in_ok-report-in-Some-default-clause-answer
returns-in_ok-report-in-Some-default-clause-answer c =
    rw c.in-Some-default.is-0
    (c.in_ok-report-in-Some-default.report, refl, c.in_ok-report-in-Some-default.ensures.report)
