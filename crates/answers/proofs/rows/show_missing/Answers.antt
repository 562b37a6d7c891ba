use Rattle.std.proofs.Common.{arith, map}
use Rattle.pcr_values.specs.Names.{every_register}
use Rattle.pcr_values.proofs.RegisterLaws.{every_count}
use Rattle.answers.specs.RowCells.{if_missing}
use Rattle.cells.proofs.CellLaws.{all_shown, no_rows, one_more}
use Rattle.answers.proofs.rows.show_missing.Goals as goal

pub loop-number-init : goal.loop-number-init
loop-number-init g c =
    no_rows
    (λ register. if_missing c.args.name.now c.args.requirement.now (map g.T.HasExpected.expected_of c.args.rows.now) register.0 register.1) _

pub loop-number-preserved : goal.loop-number-preserved
loop-number-preserved g c =
    one_more
    (λ register. if_missing c.args.name.now c.args.requirement.now (map g.T.HasExpected.expected_of c.args.rows.now) register.0 register.1)
    every_register c.loop-number.number _ (omega (arith, every_count)) c.loop-number.invariant
    (rw (← c.register_numbered-alg.ensures) at c.in_ok-show_if_missing.ensures)

pub returns : goal.returns
returns g c =
    all_shown
    (λ register. if_missing c.args.name.now c.args.requirement.now (map g.T.HasExpected.expected_of c.args.rows.now) register.0 register.1)
    every_register c.loop-number.number (omega (arith, every_count)) c.loop-number.invariant
