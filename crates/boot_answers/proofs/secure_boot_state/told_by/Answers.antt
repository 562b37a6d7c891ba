use Rattle.boot_log.specs.Names.{log_event_of}
use Rattle.boot_answers.proofs.SecureBootLaws.{ends_of}
use Rattle.boot_answers.proofs.secure_boot_state.told_by.Goals as goal

pub returns-in-Some-clause-ends : goal.returns-in-Some-clause-ends
returns-in-Some-clause-ends c =
    ends_of c.args.alg (log_event_of c.args.event.now) c.in-Some.value.now c.said_by.result (c.is_whole.ensures.0 c.if-not-is_whole.false)
    c.in-Some.ensures.found c.in-Some.ensures.only c.said_by.ensures

pub returns-in-None-clause-before : goal.returns-in-None-clause-before
returns-in-None-clause-before c = record {
  measured = c.is_whole.ensures.0 c.if-not-is_whole.false;
  no_separator = c.if-event-eq-SEPARATOR_SIZE.false;
  other = λ value is. let none = c.in-None.ensures.only value is in absurd cc;
}
