use Rattle.std.proofs.Common.{◌∙◌, refl, sym}
use Rattle.boot_texts.proofs.differences.either_extended.Goals as goal

pub returns-then-has_events : goal.returns-then-has_events
returns-then-has_events c = λ table rows events others is is_too.
    rw (c.if-has_events.true, sym (c.has_events.ensures table events is) ∙ c.if-has_events.true) refl

pub returns-else-has_events : goal.returns-else-has_events
returns-else-has_events c = λ table rows events others is is_too.
    rw (sym (c.has_events.ensures table events is) ∙ c.if-has_events.false) (c.has_events-else-has_events.ensures rows others is_too)
