use Rattle.std.proofs.Common.{arith}
use Rattle.cells.specs.Cells.{object}
use Rattle.answers.specs.RowCells.{row_cell}
use Rattle.cells.proofs.CellLaws.{all_shown, no_rows, one_more}
use Rattle.answers.proofs.rows.show_each.Goals as goal

pub loop-row-init : goal.loop-row-init
loop-row-init g c = no_rows (λ row. object (row_cell (g.T.HasExpected.expected_of row) (g.T.Says.said_of row))) _

pub loop-row-preserved : goal.loop-row-preserved
loop-row-preserved g c =
    one_more (λ row. object (row_cell (g.T.HasExpected.expected_of row) (g.T.Says.said_of row))) c.args.rows.now c.loop-row.row-index
    c.row-item.result c.loop-row-test.true c.loop-row.invariant (rw c.row-item.is at c.in_ok-show_row.ensures)

pub returns : goal.returns
returns g c =
    all_shown (λ row. object (row_cell (g.T.HasExpected.expected_of row) (g.T.Says.said_of row))) c.args.rows.now c.loop-row.row-index
    (omega arith) c.loop-row.invariant
