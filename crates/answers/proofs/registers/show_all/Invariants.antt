use Rattle.std.proofs.Common.{take}
use Rattle.pcr_banks.specs.Names.{bytes_of}
use Rattle.json.specs.Tree.{json_tokens}
use Rattle.cells.proofs.CellLaws.{HasEach}
use Rattle.answers.specs.RegisterCells.{value_cell}
use Rattle.answers.proofs.registers.show_all.Given as goal

abbrev pub invariant-loop-register : goal.invariant-loop-register
invariant-loop-register l =
    HasEach json_tokens l.initial.out l.out (λ expected. value_cell expected.alg expected.register (bytes_of expected.value))
    (take l.register-index l.expected)
