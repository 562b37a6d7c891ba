use Rattle.std.proofs.Common.{take}
use Rattle.json.specs.Tree.{json_tokens}
use Rattle.cells.specs.Cells.{when}
use Rattle.cells.proofs.CellLaws.{HasEach}
use Rattle.answers.specs.ReportCells.{is_at_reset, reset_row}
use Rattle.answers.proofs.row_order.show_at_reset.Given as goal

abbrev pub invariant-loop-row : goal.invariant-loop-row
invariant-loop-row l =
    HasEach json_tokens l.initial.out l.out (λ row. when (is_at_reset row) (reset_row row)) (take l.row-index l.rows)
