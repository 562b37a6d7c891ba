use Rattle.std.proofs.Common.{inr}
use Rattle.judging.specs.declared.request.Answer.TheVariants as answers
use Rattle.agent_inputs.proofs.LoadingLemmas.{source_failed}
use Rattle.judging.proofs.InputLaws.{held, list_refused}
use Rattle.judging.proofs.RegisterLaws.{starts_alike}
use Rattle.judging.proofs.registers.after_list_from.Goals as goal

pub returns-in-Ok-clause-answer : goal.returns-in-Ok-clause-answer
returns-in-Ok-clause-answer g c =
    λ inputs gives.
    let from = c.in-Ok.ensures.registers in
    let replayed = starts_alike _ _ _ from.entries from.replay.reset c.list_start.ensures from.replay.replayed in (
      answers.Registers (record { start = c.list_start.result; now = c.in-Ok.now }),
      (from.list, held gives from.came, (from.entries, from.list_is, from.genuine, c.list_start.ensures, replayed)),
      c.alone.ensures,
    )

pub returns-in-Err-clause-fault : goal.returns-in-Err-clause-fault
returns-in-Err-clause-fault g c =
    λ inputs gives.
    inr (
    list_refused gives c.in-Err.fault _
    (source_failed c.replay_from.result c.in-Err.fault _ _ c.in-Err.is c.replay_from.ensures.counts c.replay_from.ensures.telling)
    (rw c.limit_of.ensures at c.in-Err.ensures.fault) c.refusal.ensures
    )
