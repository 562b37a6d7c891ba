use Rattle.std.proofs.Common.{arith, codes}
use Rattle.cells.specs.Cells.{item_number}
use Rattle.cells.proofs.CellLaws.{all_shown, no_rows, one_more}
use Rattle.answers.proofs.report.show_each.Goals as goal

pub loop-number-init : goal.loop-number-init
loop-number-init c = no_rows (λ number. item_number (codes "unknown entry ") number (codes "\n")) _

pub loop-number-preserved : goal.loop-number-preserved
loop-number-preserved c =
    one_more (λ number. item_number (codes "unknown entry ") number (codes "\n")) c.args.numbers.now c.loop-number.number-index _
    c.loop-number-test.true c.loop-number.invariant c.in_ok-item_number.ensures

pub returns : goal.returns
returns c =
    all_shown (λ number. item_number (codes "unknown entry ") number (codes "\n")) c.args.numbers.now c.loop-number.number-index
    (omega arith) c.loop-number.invariant
