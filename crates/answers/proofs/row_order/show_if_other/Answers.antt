use Rattle.std.proofs.Common.{refl, sym, ◌∙◌}
use Rattle.cells.proofs.CellLaws.{none_shown}
use Rattle.answers.proofs.row_order.show_if_other.Goals as goal

pub returns-then-is_at_reset : goal.returns-then-is_at_reset
returns-then-is_at_reset c = rw (sym c.is_at_reset.ensures ∙ c.if-is_at_reset.true) (none_shown refl)

pub returns : goal.returns
returns c = rw (sym c.is_at_reset.ensures ∙ c.if-is_at_reset.false) c.show_row.ensures
