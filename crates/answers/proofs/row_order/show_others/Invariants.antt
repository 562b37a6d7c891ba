use Rattle.std.proofs.Common.{not, take}
use Rattle.json.specs.Tree.{json_tokens}
use Rattle.cells.specs.Cells.{when}
use Rattle.cells.proofs.CellLaws.{HasEach}
use Rattle.answers.specs.ReportCells.{given_row, is_at_reset}
use Rattle.answers.proofs.row_order.show_others.Given as goal

abbrev pub invariant-loop-row : goal.invariant-loop-row
invariant-loop-row l =
    HasEach json_tokens l.initial.out l.out (λ row. when (not (is_at_reset row)) (given_row row)) (take l.row-index l.rows)
