use Rattle.std.proofs.Common.{inr, rules, w32}
use mir.Val.{SFits}
use Rattle.std.proofs.Math.Facts.{to_z-of_z}
use Rattle.ima_verify_c.proofs.GivingLaws.{gives_refusal}
use Rattle.ima_verify_c.proofs.ima_verify_raw_locate.Goals as goal

pub returns-in-Err : goal.returns-in-Err
returns-in-Err c =
    let fits : SFits w32 c.give_fault.result = search rules in
    rw (to_z-of_z fits, ← c.form_of-form.ensures) (gives_refusal _ _ c.in-Err.fault _ _ _ _ (inr c.in-Err.ensures.fault) c.give_fault.ensures)
