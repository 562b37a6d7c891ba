use Rattle.boot_answers.proofs.policies.asks.Goals as goal

pub returns-in-Wide : goal.returns-in-Wide
returns-in-Wide c = rw c.in-Wide.is c.asks_wide.ensures
