use Rattle.boot_answers.proofs.policies.ima_policy.Goals as goal

pub returns-in-Some : goal.returns-in-Some
returns-in-Some c table events is = (rw c.in-Some.is at c.in_ok-measuring.ensures) table events is

pub returns-in-Some-policy : goal.returns-in-Some-policy
returns-in-Some-policy c table events is =
    ((rw c.in_default.is at c.in_ok-measuring.ensures) table events is, (rw c.in-Some-policy.is at c.in_ok-policy.ensures) table events is)

pub returns-in-None : goal.returns-in-None
returns-in-None c table events is =
    ((rw c.in_default.is at c.in_ok-measuring.ensures) table events is, (rw c.in-None.is at c.in_ok-policy.ensures) table events is)
