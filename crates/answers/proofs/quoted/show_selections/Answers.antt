use Rattle.std.proofs.Common.{arith}
use Rattle.attestations.specs.Quoted.{bank_selection_of}
use Rattle.answers.specs.AttestationCells.{selection_cell}
use Rattle.cells.proofs.CellLaws.{all_mapped, no_rows, one_more}
use Rattle.answers.proofs.quoted.show_selections.Goals as goal

pub loop-selected-init : goal.loop-selected-init
loop-selected-init c = no_rows (λ selected. selection_cell (bank_selection_of selected)) _

pub loop-selected-preserved : goal.loop-selected-preserved
loop-selected-preserved c =
    one_more (λ selected. selection_cell (bank_selection_of selected)) c.args.selections.now c.loop-selected.selected-index
    c.selected-item.result c.loop-selected-test.true c.loop-selected.invariant (rw c.selected-item.is at c.in_ok-show_selection.ensures)

pub returns : goal.returns
returns c =
    all_mapped selection_cell bank_selection_of c.args.selections.now c.loop-selected.selected-index (omega arith) c.loop-selected.invariant
