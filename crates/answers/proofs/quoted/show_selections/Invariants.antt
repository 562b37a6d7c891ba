use Rattle.std.proofs.Common.{take}
use Rattle.attestations.specs.Quoted.{bank_selection_of}
use Rattle.json.specs.Tree.{json_tokens}
use Rattle.cells.proofs.CellLaws.{HasEach}
use Rattle.answers.specs.AttestationCells.{selection_cell}
use Rattle.answers.proofs.quoted.show_selections.Given as goal

abbrev pub invariant-loop-selected : goal.invariant-loop-selected
invariant-loop-selected l =
    HasEach json_tokens l.initial.out l.out (λ selected. selection_cell (bank_selection_of selected)) (take l.selected-index l.selections)
