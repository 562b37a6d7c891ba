use Rattle.std.proofs.Common.{◌≡◌, length, arith}
use Rattle.cells.proofs.CellLaws.{joined}
use Rattle.answers.proofs.list_report.show_list_report.Goals as goal

pub returns : goal.returns
returns c =
    let many : c.len.result ≡ length c.args.report.now.rows.items = omega (arith, c.len.ensures) in
    let rows = rw c.deref.ensures.value at c.in_ok-show_report_rows.ensures in
    let verdict = rw c.list_meets.ensures at c.show_verdict.ensures in
    joined c.in_ok-number.ensures (joined c.in_ok-text.ensures (joined (rw many at c.in_ok-show_compared.ensures)
    (joined rows (joined c.in_ok-show_strays.ensures (joined c.in_ok-show_unknown.ensures verdict)))))
