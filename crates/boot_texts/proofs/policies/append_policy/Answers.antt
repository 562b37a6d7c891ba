use Rattle.boot_texts.proofs.policies.append_policy.Goals as goal

pub returns : goal.returns
returns c table events is = (c.in_ok-policy.policy, c.in_ok-policy.ensures table events is, c.in_ok-append.ensures.ok)
