use Rattle.std.proofs.Common.{refl}
use Rattle.boot_answers.proofs.FailingTestLaws.{not_told}
use Rattle.boot_answers.proofs.versions.agrees.Goals as goal

pub returns-then-is_answering : goal.returns-then-is_answering
returns-then-is_answering c table events is =
    let any = c.tells_any.ensures table events is in
    (λ yes answering. any.0 yes, λ agrees. any.1 (agrees (c.is_answering.ensures.answering.0 c.if-is_answering.true)))

pub returns-else-is_answering : goal.returns-else-is_answering
returns-else-is_answering c table events is = (
  λ yes answering. absurd (not_told c.is_answering.result _ c.if-is_answering.false c.is_answering.ensures.answering answering),
  λ agrees. refl,
)
