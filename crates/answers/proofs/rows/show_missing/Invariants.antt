use Rattle.std.proofs.Common.{map, take}
use Rattle.json.specs.Tree.{json_tokens}
use Rattle.pcr_values.specs.Names.{every_register}
use Rattle.cells.proofs.CellLaws.{HasEach}
use Rattle.answers.specs.RowCells.{if_missing}
use Rattle.answers.proofs.rows.show_missing.Given as goal

abbrev pub invariant-loop-number : goal.invariant-loop-number
invariant-loop-number g l =
    HasEach json_tokens l.initial.out l.out
    (λ register. if_missing l.name l.requirement (map g.T.HasExpected.expected_of l.rows) register.0 register.1)
    (take l.number every_register)
