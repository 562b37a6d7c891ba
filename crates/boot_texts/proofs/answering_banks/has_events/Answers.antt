use Rattle.std.proofs.Common.{[], sym, ap}
use Rattle.boot_texts.specs.Answering.{is_some_event}
use Rattle.boot_texts.proofs.answering_banks.has_events.Goals as goal

pub returns-in-Some : goal.returns-in-Some
returns-in-Some c = λ table events is.
    let later = (rw c.in-Some.is at c.next_event.ensures.prefix) _ table c.args.register [] events c.new.ensures is in
    sym (ap is_some_event later.1)

pub returns-in-None : goal.returns-in-None
returns-in-None c = λ table events is.
    sym (ap is_some_event ((rw c.in-None.is at c.next_event.ensures.end) _ table c.args.register [] events c.new.ensures is))
