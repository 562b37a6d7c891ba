use Rattle.std.proofs.Common.{rules, w32}
use mir.Val.{SFits}
use Rattle.std.proofs.Math.Facts.{to_z-of_z}
use Rattle.ima_verify_c.proofs.GivingLaws.{counts_refusal}
use Rattle.ima_verify_c.proofs.replies.give_no_verdict.Goals as goal

pub returns : goal.returns
returns c =
    let fits : SFits w32 c.give_fault.result = search rules in
    rw (to_z-of_z fits) (λ request reason. counts_refusal request _ c.args.fault.now _ _ _ _ reason c.give_fault.ensures _ _ c.fill_if.ensures)
