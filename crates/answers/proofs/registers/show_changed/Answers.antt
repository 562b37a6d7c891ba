use Rattle.std.proofs.Common.{arith}
use Rattle.pcr_values.specs.Names.{every_register}
use Rattle.pcr_values.proofs.RegisterLaws.{every_count}
use Rattle.answers.specs.RegisterCells.{change_cell}
use Rattle.cells.proofs.CellLaws.{all_shown, no_rows, one_more}
use Rattle.answers.proofs.registers.show_changed.Goals as goal

pub loop-number-init : goal.loop-number-init
loop-number-init c = no_rows (λ register. change_cell c.args.now.now c.args.start.now register.0 register.1) _

pub loop-number-preserved : goal.loop-number-preserved
loop-number-preserved c =
    one_more (λ register. change_cell c.args.now.now c.args.start.now register.0 register.1) every_register c.loop-number.number _
    (omega (arith, every_count)) c.loop-number.invariant (rw (← c.register_numbered-alg.ensures) at c.in_ok-show_change.ensures)

pub returns : goal.returns
returns c =
    all_shown (λ register. change_cell c.args.now.now c.args.start.now register.0 register.1) every_register c.loop-number.number
    (omega (arith, every_count)) c.loop-number.invariant
