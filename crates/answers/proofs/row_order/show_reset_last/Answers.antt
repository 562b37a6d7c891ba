use Rattle.cells.proofs.CellLaws.{in_list, joined}
use Rattle.answers.proofs.row_order.show_reset_last.Goals as goal

pub returns : goal.returns
returns c =
    in_list c.in_ok-list.ensures
    (joined c.in_ok-show_others.ensures (joined c.in_ok-show_required.ensures c.in_ok-show_at_reset.ensures)) c.end_list.ensures
