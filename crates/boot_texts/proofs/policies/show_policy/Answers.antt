use Rattle.cells.proofs.CellLaws.{joined}
use Rattle.boot_texts.proofs.policies.show_policy.Goals as goal

pub returns : goal.returns
returns c = joined (rw c.policy_word.ensures at c.in_ok-word.ensures) (joined (rw c.policy_event.ensures at c.in_ok-show_event.ensures) c.text.ensures)
