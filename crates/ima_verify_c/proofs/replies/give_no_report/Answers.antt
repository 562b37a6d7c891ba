use Rattle.std.proofs.Common.{rules, w32}
use mir.Val.{SFits}
use Rattle.std.proofs.Math.Facts.{to_z-of_z}
use Rattle.ima_verify_c.proofs.GivingLaws.{reports_nothing}
use Rattle.ima_verify_c.proofs.replies.give_no_report.Goals as goal

pub returns : goal.returns
returns c =
    let fits : SFits w32 c.give_fault.result = search rules in
    rw (to_z-of_z fits) (λ next. reports_nothing _ _ _ _ _ _ _ _ next c.fill_if.ensures c.give_fault.ensures)
