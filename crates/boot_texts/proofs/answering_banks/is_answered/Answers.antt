use Rattle.std.proofs.Common.{sym, ◌∙◌}
use Rattle.boot_texts.proofs.answering_banks.is_answered.Goals as goal

pub returns-then-has_answer : goal.returns-then-has_answer
returns-then-has_answer c table events is = rw (sym c.has_answer.ensures ∙ c.if-has_answer.true) (c.has_events.ensures table events is)
