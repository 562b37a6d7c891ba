use Rattle.std.proofs.Common.{arith}
use Rattle.cells.specs.Cells.{when}
use Rattle.answers.specs.ReportCells.{is_at_reset, reset_row}
use Rattle.cells.proofs.CellLaws.{all_shown, no_rows, one_more}
use Rattle.answers.proofs.row_order.show_at_reset.Goals as goal

pub loop-row-init : goal.loop-row-init
loop-row-init c = no_rows (λ row. when (is_at_reset row) (reset_row row)) _

pub loop-row-preserved : goal.loop-row-preserved
loop-row-preserved c =
    one_more (λ row. when (is_at_reset row) (reset_row row)) c.args.rows.now c.loop-row.row-index
    _ c.loop-row-test.true c.loop-row.invariant c.in_ok-show_if_at_reset.ensures

pub returns : goal.returns
returns c =
    all_shown (λ row. when (is_at_reset row) (reset_row row)) c.args.rows.now c.loop-row.row-index
    (omega arith) c.loop-row.invariant
