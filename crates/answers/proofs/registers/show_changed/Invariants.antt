use Rattle.std.proofs.Common.{take}
use Rattle.json.specs.Tree.{json_tokens}
use Rattle.pcr_values.specs.Names.{every_register}
use Rattle.cells.proofs.CellLaws.{HasEach}
use Rattle.answers.specs.RegisterCells.{change_cell}
use Rattle.answers.proofs.registers.show_changed.Given as goal

abbrev pub invariant-loop-number : goal.invariant-loop-number
invariant-loop-number l =
    HasEach json_tokens l.initial.out l.out (λ register. change_cell l.now l.start register.0 register.1) (take l.number every_register)
