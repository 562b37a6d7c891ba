use Rattle.boot_texts.proofs.differences.append_register.Goals as goal

pub returns-in-Unanswered : goal.returns-in-Unanswered
returns-in-Unanswered c = λ table rows events others is is_too.
    rw c.in-Unanswered.is (c.append_if_extended.ensures table rows events others is is_too)

pub returns-in-Alike : goal.returns-in-Alike
returns-in-Alike c = λ table rows events others is is_too.
    rw c.in-Alike.is (c.append_if_extended-in-Alike.ensures table rows events others is is_too)

pub returns-in-Apart : goal.returns-in-Apart
returns-in-Apart c = λ table rows events others is is_too.
    rw c.in-Apart.is (rw (c.deref.ensures.value, c.deref-in-Apart.ensures.value) at (c.append_from.ensures table rows events others is is_too))
