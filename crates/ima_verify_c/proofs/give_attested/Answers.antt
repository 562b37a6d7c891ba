use Rattle.std.proofs.Common.{inr, rules, w32}
use mir.Val.{SFits}
use Rattle.std.proofs.Math.Facts.{to_z-of_z}
use Rattle.ima_verify_c.proofs.GivingLaws.{gives_no_answer}
use Rattle.ima_verify_c.proofs.give_attested.Goals as goal

pub returns-in-Err : goal.returns-in-Err
returns-in-Err c =
    let fits : SFits w32 c.give_no_report.result = search rules in
    rw (to_z-of_z fits) (gives_no_answer _ c.in-Err.fault _ _ _ _ _ _ _ _ _ (c.give_no_report.ensures _) _ (inr c.in-Err.ensures.fault))
