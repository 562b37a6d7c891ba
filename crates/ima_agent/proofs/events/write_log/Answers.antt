use Rattle.std.proofs.Common.{List, ℕ, [], refl, sym, subst, inl, inr}
use Rattle.boot_log.specs.Names.{IsLog}
use Rattle.byte_streams.proofs.SinkLaws.{Sends-none}
use Rattle.event_lines.specs.EventTexts.{events_text}
use Rattle.ima_agent.proofs.OutcomeLaws.{text_sent}
use Rattle.ima_agent.proofs.events.write_log.Goals as goal

pub returns-in-Err : goal.returns-in-Err
returns-in-Err g c = λ form. record {
  text = [];
  sends = Sends-none (g.S.Sink.state c.args.sink.now) tt;
  goes_on = λ last status failure. inr (
    c.into.result,
    record {
      first = c.in-Err.fault;
      first_is = c.in-Err.ensures.fault;
      says = c.into.ensures;
    },
    failure,
  );
}

pub returns-in-Ok-write_events : goal.returns-in-Ok-write_events
returns-in-Ok-write_events g c =
    λ form.
    let (table, events, is) = c.in-Ok.ensures.sound in
    let viewed = subst (λ (bytes : List ℕ). IsLog bytes table events) (sym c.in-Ok.ensures.found) is in
    text_sent _ (events_text c.args.with_data table events) 0 _ _ _
    (inl (record { table = table; events = events; log_is = is; text_is = refl }, refl))
    (rw c.in-Ok-write_events.is at (c.write_events.ensures table events viewed), refl)

pub returns-in-Err-write_events : goal.returns-in-Err-write_events
returns-in-Err-write_events g c =
    λ form.
    let (table, events, is) = c.in-Ok.ensures.sound in
    let viewed = subst (λ (bytes : List ℕ). IsLog bytes table events) (sym c.in-Ok.ensures.found) is in
    text_sent _ (events_text c.args.with_data table events) 0 _ _ _
    (inl (record { table = table; events = events; log_is = is; text_is = refl }, refl))
    (rw c.in-Err-write_events.is at (c.write_events.ensures table events viewed))
