use Rattle.std.proofs.Common.{false, ◌∙◌}
use Rattle.std.proofs.lemmas.Bool.Decides.{Decides-at}
use Rattle.boot_log.specs.Names.{log_event_of}
use Rattle.measured_data.specs.Confirming.{is_confirmed}
use Rattle.measured_data.proofs.ConfirmedLaws.{confirmed_bytes, confirmed_none, confirmed_told}
use Rattle.measured_data.proofs.confirmed.is_confirmed.Goals as goal

pub returns-in-Some-clause-confirmed : goal.returns-in-Some-clause-confirmed
returns-in-Some-clause-confirmed c =
    let event = log_event_of c.args.event.now in
    Decides-at c.has_confirmed.result (is_confirmed c.args.matched.now event c.args.part)
    (c.has_confirmed.ensures ∙ confirmed_bytes c.args.matched.now event c.args.part c.in-Some.bytes.now c.in-Some.ensures.value)
    (confirmed_told c.args.matched.now event c.args.part c.part_of.ensures.bytes)

pub returns-in-None-clause-confirmed : goal.returns-in-None-clause-confirmed
returns-in-None-clause-confirmed c =
    let event = log_event_of c.args.event.now in
    Decides-at false (is_confirmed c.args.matched.now event c.args.part)
    (confirmed_none c.args.matched.now event c.args.part c.in-None.ensures.value)
    (confirmed_told c.args.matched.now event c.args.part c.part_of.ensures.bytes)
