use Rattle.std.proofs.lemmas.Result.{IfOk-weaker}
use Rattle.boot_verdict.proofs.KeptLaws.{same_all}
use Rattle.boot_verdict.proofs.verifier.report_on.Goals as goal

pub returns : goal.returns
returns c =
    IfOk-weaker c.report_after.result _ _
    (λ report is table events list log firmware checkpoint.
    is table events list log firmware (same_all c.args.expected.now c.args.known.now.before) checkpoint) c.report_after.ensures
