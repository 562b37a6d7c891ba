use Rattle.std.proofs.Common.{take}
use Rattle.json.specs.Tree.{json_tokens}
use Rattle.cells.specs.Cells.{object}
use Rattle.cells.proofs.CellLaws.{HasEach}
use Rattle.answers.specs.RowCells.{row_cell}
use Rattle.answers.proofs.rows.show_each.Given as goal

abbrev pub invariant-loop-row : goal.invariant-loop-row
invariant-loop-row g l =
    HasEach json_tokens l.initial.out l.out
    (λ row. object (row_cell (g.T.HasExpected.expected_of row) (g.T.Says.said_of row))) (take l.row-index l.rows)
