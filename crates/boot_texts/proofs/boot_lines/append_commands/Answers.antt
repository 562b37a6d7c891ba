use Rattle.std.proofs.Common.{refl, sym, ◌∙◌}
use Rattle.boot_texts.proofs.boot_lines.append_commands.Goals as goal

pub returns-in_ok-append_each : goal.returns-in_ok-append_each
returns-in_ok-append_each c table events is =
    rw (sym (c.is_answered.ensures table events is) ∙ c.if-is_answered.true) (c.in_ok-append_each.ensures table events is)

pub returns-in_ok-append : goal.returns-in_ok-append
returns-in_ok-append c table events is =
    rw (sym (c.is_answered.ensures table events is) ∙ c.if-is_answered.false) (_, refl, c.in_ok-append.ensures.ok)
