use Rattle.std.proofs.Common.{take}
use Rattle.pcr_values.specs.Names.{all_registers}
use Rattle.attestations.specs.Quoted.{bank_selection_of}
use Rattle.json.specs.Tree.{json_tokens}
use Rattle.cells.proofs.CellLaws.{HasEach}
use Rattle.answers.specs.AttestationCells.{number_cell}
use Rattle.answers.proofs.quoted.show_numbers.Given as goal

abbrev pub invariant-loop-register : goal.invariant-loop-register
invariant-loop-register l =
    HasEach json_tokens l.initial.out l.out (number_cell (bank_selection_of l.selected)) (take l.register all_registers)
