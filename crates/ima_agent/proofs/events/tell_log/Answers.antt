use Rattle.std.proofs.Common.{Vec, Global, inl, inr}
use Rattle.std.specs.Prelude.{option_map}
use Rattle.measured_data.specs.declared.confirmed.Pcr.{Pcr}
use Rattle.ima_agent.proofs.StreamingLaws.{none_said, streams_so}
use Rattle.ima_agent.proofs.events.tell_log.Goals as goal

pub returns-in-Ok-clause-streams : goal.returns-in-Ok-clause-streams
returns-in-Ok-clause-streams g c =
    let matched = option_map (λ (places : Vec Pcr Global). places.items) c.in-Ok.matched.places in
    streams_so _ _ _ _ c.send_log.result
    (λ text status shown. inl (c.in-Ok.ensures.known, (matched, c.in-Ok.matched.status, c.in-Ok.ensures.matched, shown)))
    (rw c.as_deref.ensures.value at c.send_log.ensures)

pub returns-in-Err-clause-streams : goal.returns-in-Err-clause-streams
returns-in-Err-clause-streams g c =
    none_said _ _ c.in-Err.fault (λ last status failure. inr (c.in-Err.fault, c.in-Err.ensures.fault, failure))
