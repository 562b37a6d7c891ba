use Rattle.hints.proofs.HintLaws.{head_given}
use Rattle.hints.proofs.reread.head_of.Goals as goal

pub returns-in-Ok-first_bytes-clause-head : goal.returns-in-Ok-first_bytes-clause-head
returns-in-Ok-first_bytes-clause-head g c = head_given _ _ _ c.in-Ok.ensures.gives c.in-Ok-first_bytes.ensures.head
