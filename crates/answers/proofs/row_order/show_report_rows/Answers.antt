use Rattle.answers.proofs.row_order.show_report_rows.Goals as goal

pub returns-in-Given : goal.returns-in-Given
returns-in-Given c = rw c.in-Given.is c.show_rows.ensures

pub returns-in-ResetLast : goal.returns-in-ResetLast
returns-in-ResetLast c = rw c.in-ResetLast.is c.show_reset_last.ensures
