use Rattle.boot_answers.proofs.alike_events.common_events.Goals as goal

pub returns : goal.returns
returns c = λ table rows events others log log_too.
    rw (c.deref.ensures.value, c.deref-2.ensures.value, c.in_ok-now.ensures.are table events log, c.in_ok-before.ensures.are rows others log_too)
    at c.in_ok-common.ensures
