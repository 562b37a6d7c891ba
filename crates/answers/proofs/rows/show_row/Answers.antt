use Rattle.cells.proofs.CellLaws.{in_object, joined}
use Rattle.answers.proofs.rows.show_row.Goals as goal

pub returns : goal.returns
returns g c =
    in_object c.in_ok-begin.ensures
    (joined (rw c.expected-expected.ensures at c.in_ok-show_register.ensures)
    (joined (rw c.expected-expected.ensures at c.in_ok-show_value.ensures) (joined c.in_ok-show.ensures c.in_ok-text.ensures)))
    c.end.ensures
