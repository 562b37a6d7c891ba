use Rattle.std.proofs.Common.{refl, sym, ◌∙◌}
use Rattle.cells.proofs.CellLaws.{in_object, none_shown}
use Rattle.answers.proofs.rows.show_if_missing.Goals as goal

pub returns-then-not-is_missing : goal.returns-then-not-is_missing
returns-then-not-is_missing g c = rw (sym c.is_missing.ensures ∙ c.if-not-is_missing.true) (none_shown refl)

pub returns : goal.returns
returns g c =
    rw (sym c.is_missing.ensures ∙ c.if-not-is_missing.false)
    (in_object c.in_ok-begin.ensures c.in_ok-show_missing_row.ensures c.end.ensures)
