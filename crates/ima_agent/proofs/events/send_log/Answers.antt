use Rattle.std.proofs.Common.{Bor, List, Option}
use Rattle.std.specs.Prelude.{option_map}
use Rattle.measured_data.specs.declared.confirmed.Pcr.{Pcr}
use Rattle.ima_agent.proofs.StreamingLaws.{events_cut, events_run_out, events_shown, events_to_fault}
use Rattle.ima_agent.proofs.events.send_log.Goals as goal

abbrev places_in : Option (Bor (List Pcr)) → Option (List Pcr)
places_in matched = option_map (λ (places : Bor (List Pcr)). places.now) matched

pub returns-in-Ok : goal.returns-in-Ok
returns-in-Ok g c = events_shown c.args.form (places_in c.args.matched) c.args.status _ _ _ c.in-Ok.ensures

pub returns-in-Err-Sink : goal.returns-in-Err-Sink
returns-in-Err-Sink g c =
    events_cut c.args.form (places_in c.args.matched) c.args.status _ _ _ _ (rw c.in-Err-Sink.field-0-is at c.in-Err-Sink.ensures)

pub returns-in-Err-Log : goal.returns-in-Err-Log
returns-in-Err-Log g c =
    events_to_fault c.args.form (places_in c.args.matched) c.args.status _ _ _ c.in-Err-Log.fault c.into.result c.into.ensures
    (rw c.in-Err-Log.field-0-is at c.in-Err-Log.ensures)

pub returns-in-Err-Memory : goal.returns-in-Err-Memory
returns-in-Err-Memory g c =
    events_run_out c.args.form (places_in c.args.matched) c.args.status _ _ _ (rw c.in-Err-Memory.field-0-is at c.in-Err-Memory.ensures)
