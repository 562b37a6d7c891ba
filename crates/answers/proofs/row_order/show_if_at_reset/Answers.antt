use Rattle.std.proofs.Common.{refl, sym, ◌∙◌}
use Rattle.cells.proofs.CellLaws.{in_object, none_shown}
use Rattle.answers.proofs.row_order.show_if_at_reset.Goals as goal

pub returns-then-not-is_at_reset : goal.returns-then-not-is_at_reset
returns-then-not-is_at_reset c = rw (sym c.is_at_reset.ensures ∙ c.if-not-is_at_reset.true) (none_shown refl)

pub returns : goal.returns
returns c =
    rw (sym c.is_at_reset.ensures ∙ c.if-not-is_at_reset.false)
    (in_object c.in_ok-begin.ensures c.in_ok-show_marked.ensures c.end.ensures)
