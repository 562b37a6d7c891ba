use Rattle.std.proofs.Common.{refl, sym, ◌∙◌}
use Rattle.cells.proofs.CellLaws.{in_list, joined, none_shown}
use Rattle.answers.proofs.report.show_extends.Goals as goal

pub returns-then-are_none : goal.returns-then-are_none
returns-then-are_none c = rw (sym c.are_none.ensures ∙ c.if-are_none.true) (none_shown refl)

pub returns : goal.returns
returns c =
    rw (sym c.are_none.ensures ∙ c.if-are_none.false)
    (in_list c.in_ok-list.ensures (joined c.in_ok-show_event.ensures c.in_ok-show_entry.ensures) c.end_list.ensures)
