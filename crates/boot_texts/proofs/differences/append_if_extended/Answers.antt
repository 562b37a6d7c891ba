use Rattle.std.proofs.Common.{◌∙◌, append-nil, sym}
use Rattle.boot_texts.proofs.differences.append_if_extended.Goals as goal

pub returns-then-either_extended : goal.returns-then-either_extended
returns-then-either_extended c = λ table rows events others is is_too.
    rw (sym (c.either_extended.ensures table rows events others is is_too) ∙ c.if-either_extended.true) c.append.ensures.ok

pub returns-else-either_extended : goal.returns-else-either_extended
returns-else-either_extended c = λ table rows events others is is_too.
    rw (sym (c.either_extended.ensures table rows events others is is_too) ∙ c.if-either_extended.false) (sym (append-nil c.args.lines.now.items))
