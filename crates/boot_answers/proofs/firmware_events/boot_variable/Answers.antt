use Rattle.event_data.specs.Names.{IsVariable, variable_of}
use Rattle.boot_answers.specs.BootVariables.{IsBootVariable}
use Rattle.boot_log.specs.Names.{log_event_of}
use Rattle.boot_answers.proofs.ReadLaws.{none_there}
use Rattle.boot_answers.proofs.firmware_events.boot_variable.Goals as goal

pub returns-then-is_measured_variable-clause-none : goal.returns-then-is_measured_variable-clause-none
returns-then-is_measured_variable-clause-none c =
    none_there c.read_variable.result variable_of (IsVariable c.args.event.now.payload.now)
    (IsBootVariable c.args.alg (log_event_of c.args.event.now)) c.read_variable.ensures.only (λ variable is. is.is)
