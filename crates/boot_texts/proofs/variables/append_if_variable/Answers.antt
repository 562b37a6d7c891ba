use Rattle.std.proofs.Common.{sym, ◌∙◌}
use Rattle.boot_texts.proofs.variables.append_if_variable.Goals as goal

pub returns-then-is_extended_into : goal.returns-then-is_extended_into
returns-then-is_extended_into c = rw (sym c.is_extended_into.ensures ∙ c.if-is_extended_into.true) c.append_setting.ensures
