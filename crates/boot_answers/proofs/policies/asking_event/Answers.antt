use Rattle.std.proofs.Common.{inl}
use Rattle.boot_answers.proofs.AskingLaws.{after_none}
use Rattle.boot_answers.proofs.policies.asking_event.Goals as goal

pub returns-in-Some : goal.returns-in-Some
returns-in-Some c table events is = inl ((rw c.in-Some.is at c.in_ok-by_grub.ensures) table events is)

pub returns : goal.returns
returns c table events is =
    after_none c.args.asked c.args.matched.now events c.in_ok-by_stub.by_stub ((rw c.in_default.is at c.in_ok-by_grub.ensures) table events is)
    (c.in_ok-by_stub.ensures table events is)
