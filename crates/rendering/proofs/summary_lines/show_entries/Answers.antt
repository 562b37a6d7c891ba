use Rattle.std.proofs.Common.{sym, ◌∙◌}
use Rattle.rendering.proofs.summary_lines.show_entries.Goals as goal

pub returns-then-is_same : goal.returns-then-is_same
returns-then-is_same c = rw (sym c.is_same.ensures ∙ c.if-is_same.true) c.show_all_entries.ensures

pub returns-else-is_same : goal.returns-else-is_same
returns-else-is_same c = rw (sym c.is_same.ensures ∙ c.if-is_same.false) c.show_judged_entries.ensures
