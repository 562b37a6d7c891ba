use Rattle.cells.proofs.CellLaws.{in_list, joined}
use Rattle.answers.proofs.rows.show_rows.Goals as goal

pub returns : goal.returns
returns g c = in_list c.in_ok-list.ensures (joined c.in_ok-show_each.ensures c.in_ok-show_required.ensures) c.end_list.ensures
