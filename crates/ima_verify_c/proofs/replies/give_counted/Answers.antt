use Rattle.std.proofs.Common.{None, refl, inl, rules, w32}
use mir.Val.{SFits}
use Rattle.std.proofs.Math.Facts.{to_z-of_z}
use Rattle.ima_verify_c.specs.Answers.{answer_of_status}
use Rattle.ima_verify_c.proofs.replies.give_counted.Goals as goal

pub returns-in-Ok : goal.returns-in-Ok
returns-in-Ok c =
    let fits : SFits w32 c.put_counted.result = search rules in
    rw (to_z-of_z fits) (record {
      text = c.in-Ok.given.output.text.items;
      status = answer_of_status c.in-Ok.given.output.status;
      fault = None;
      summary = c.in-Ok.given.summary;
      is_answer = (c.in-Ok.given.checkpoint.items, inl (refl, (c.in-Ok.given.output.status, c.in-Ok.ensures.shown, refl)));
      given = c.put_counted.ensures.given;
      numbers_are = c.put_counted.ensures.numbers;
    })

pub returns-in-Err : goal.returns-in-Err
returns-in-Err c =
    let fits : SFits w32 c.give_no_verdict.result = search rules in
    rw (to_z-of_z fits) (c.give_no_verdict.ensures _ (inl c.in-Err.ensures.fault))
