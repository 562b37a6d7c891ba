use Rattle.std.proofs.Common.{refl, sym, ◌∙◌}
use Rattle.cells.proofs.CellLaws.{none_shown}
use Rattle.answers.proofs.quoted.show_if_selected.Goals as goal

pub returns-then-not-selects : goal.returns-then-not-selects
returns-then-not-selects c = rw (sym c.selects.ensures ∙ c.if-not-selects.true) (none_shown refl)

pub returns : goal.returns
returns c =
    rw (sym c.selects.ensures ∙ c.if-not-selects.false) c.item_number.ensures
