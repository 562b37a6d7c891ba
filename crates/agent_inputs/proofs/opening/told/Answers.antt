use Rattle.agent_inputs.proofs.OpeningLaws.{told_result}
use Rattle.agent_inputs.proofs.opening.told.Goals as goal

pub returns : goal.returns
returns c =
    told_result (λ content. content.items) c.args.log.items c.told_log.result (rw c.deref.ensures.value at c.bytes_fit.ensures)
    c.told_log.ensures.told c.told_log.ensures.other
