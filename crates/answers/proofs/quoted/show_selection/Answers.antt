use Rattle.std.proofs.Common.{refl, sym, ◌∙◌}
use Rattle.cells.proofs.CellLaws.{in_object, none_shown}
use Rattle.answers.proofs.quoted.show_selection.Goals as goal

pub returns-then-not-selects_one : goal.returns-then-not-selects_one
returns-then-not-selects_one c = rw (sym c.selects_one.ensures ∙ c.if-not-selects_one.true) (none_shown refl)

pub returns : goal.returns
returns c =
    rw (sym c.selects_one.ensures ∙ c.if-not-selects_one.false)
    (in_object c.in_ok-begin.ensures c.in_ok-show_bank.ensures c.end.ensures)
