use Rattle.std.proofs.Common.{codes, take}
use Rattle.json.specs.Tree.{json_tokens}
use Rattle.cells.specs.Cells.{item_number}
use Rattle.cells.proofs.CellLaws.{HasEach}
use Rattle.answers.proofs.report.show_each.Given as goal

abbrev pub invariant-loop-number : goal.invariant-loop-number
invariant-loop-number l =
    HasEach json_tokens l.initial.out l.out (λ number. item_number (codes "unknown entry ") number (codes "\n")) (take l.number-index l.numbers)
