use Rattle.std.proofs.Common.{not, arith}
use Rattle.cells.specs.Cells.{when}
use Rattle.answers.specs.ReportCells.{given_row, is_at_reset}
use Rattle.cells.proofs.CellLaws.{all_shown, no_rows, one_more}
use Rattle.answers.proofs.row_order.show_others.Goals as goal

pub loop-row-init : goal.loop-row-init
loop-row-init c = no_rows (λ row. when (not (is_at_reset row)) (given_row row)) _

pub loop-row-preserved : goal.loop-row-preserved
loop-row-preserved c =
    one_more (λ row. when (not (is_at_reset row)) (given_row row)) c.args.rows.now c.loop-row.row-index
    _ c.loop-row-test.true c.loop-row.invariant c.in_ok-show_if_other.ensures

pub returns : goal.returns
returns c =
    all_shown (λ row. when (not (is_at_reset row)) (given_row row)) c.args.rows.now c.loop-row.row-index
    (omega arith) c.loop-row.invariant
