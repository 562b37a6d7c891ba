use Rattle.std.proofs.Common.{None, refl, inl, rules, w32}
use mir.Val.{SFits}
use Rattle.std.proofs.Math.Facts.{to_z-of_z}
use Rattle.ima_verify_c.proofs.GivingLaws.{gives_refusal}
use Rattle.ima_verify_c.proofs.replies.give.Goals as goal

pub returns-in-Ok : goal.returns-in-Ok
returns-in-Ok c =
    let fits : SFits w32 c.put.result = search rules in
    rw (to_z-of_z fits) (record {
      text = c.in-Ok.given.output.text.items;
      status = c.answer_of_status.result;
      fault = None;
      is_answer = (c.in-Ok.given.summary, (c.in-Ok.given.checkpoint.items, inl (refl, (c.in-Ok.given.output.status, c.in-Ok.ensures.shown, c.answer_of_status.ensures))));
      given = rw c.deref.ensures.value at c.put.ensures;
    })

pub returns-in-Err : goal.returns-in-Err
returns-in-Err c =
    let fits : SFits w32 c.give_fault.result = search rules in
    rw (to_z-of_z fits) (gives_refusal _ _ c.in-Err.fault _ _ _ _ (inl c.in-Err.ensures.fault) c.give_fault.ensures)
