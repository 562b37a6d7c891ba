use Rattle.std.proofs.Common.{refl, subst}
use Rattle.boot_answers.specs.parts.SecureBoot.{IsToldIn}
use Rattle.boot_answers.proofs.FailingTestLaws.{not_told}
use Rattle.boot_answers.proofs.SecureBootLaws.{one_told_in}
use Rattle.boot_answers.proofs.secure_boot_state.agrees.Goals as goal

pub returns-then-is_answering : goal.returns-then-is_answering
returns-then-is_answering c table events is =
    let told = c.told_in.ensures table events is in
    let answering = c.is_answering.ensures.answering.0 c.if-is_answering.true in (
      λ yes _. subst (IsToldIn c.args.alg events) (c.is_same.ensures.0 yes) told,
      λ agrees. c.is_same.ensures.1 (one_told_in c.args.alg events c.told_in.result c.args.answer told (agrees answering)),
    )

pub returns-else-is_answering : goal.returns-else-is_answering
returns-else-is_answering c table events is = (
  λ yes answering. absurd (not_told c.is_answering.result _ c.if-is_answering.false c.is_answering.ensures.answering answering),
  λ agrees. refl,
)
