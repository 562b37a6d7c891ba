use Rattle.std.proofs.Common.{refl, sym, ◌∙◌}
use Rattle.cells.proofs.CellLaws.{joined, none_shown}
use Rattle.rendering.proofs.summary_lines.show_unknown.Goals as goal

pub returns-then-is_same : goal.returns-then-is_same
returns-then-is_same c = rw (sym c.is_same.ensures ∙ c.if-is_same.true) (none_shown refl)

pub returns : goal.returns
returns c = rw (sym c.is_same.ensures ∙ c.if-is_same.false) (joined c.in_ok-count.ensures c.text.ensures)
