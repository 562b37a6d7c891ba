use Rattle.std.proofs.lemmas.Result.{err_from_is_err_and}
use Rattle.boot_verdict.proofs.VerdictLaws.{log_viewed, verdict_by}
use Rattle.growing_lists.proofs.session.Session.report.Goals as goal

pub returns-in_err-report_on-clause-report : goal.returns-in_err-report_on-clause-report
returns-in_err-report_on-clause-report c =
    let p = err_from_is_err_and c.from_residual.result c.from_residual.ensures.1 in rw p.1 tt

pub returns-clause-report : goal.returns-clause-report
returns-clause-report c =
    λ log list has.
    verdict_by has.log_is has.checkpoint
    (c.in_ok-report_on.ensures has.table has.events list (log_viewed has.same_log has.log_is) has.start has.checkpoint)
