use Rattle.boot_log.specs.Names.{log_event_of}
use Rattle.measured_data.specs.Confirming.{IsConfirmed}
use Rattle.measured_data.proofs.PartLaws.{no_part}
use Rattle.measured_data.proofs.confirmed.confirmed_part.Goals as goal

pub returns-else-is_confirmed-3-clause-first : goal.returns-else-is_confirmed-3-clause-first
returns-else-is_confirmed-3-clause-first c =
    no_part (IsConfirmed c.args.matched.now (log_event_of c.args.event.now))
    c.if-is_confirmed.ensures.confirmed c.if-is_confirmed-2.ensures.confirmed c.if-is_confirmed-3.ensures.confirmed
