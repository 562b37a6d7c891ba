use Rattle.std.proofs.Common.{arith}
use Rattle.pcr_banks.specs.Names.{bytes_of}
use Rattle.answers.specs.RegisterCells.{value_cell}
use Rattle.cells.proofs.CellLaws.{all_shown, no_rows, one_more}
use Rattle.answers.proofs.registers.show_all.Goals as goal

pub loop-register-init : goal.loop-register-init
loop-register-init c = no_rows (λ expected. value_cell expected.alg expected.register (bytes_of expected.value)) _

pub loop-register-preserved : goal.loop-register-preserved
loop-register-preserved c =
    one_more (λ expected. value_cell expected.alg expected.register (bytes_of expected.value)) c.args.expected.now
    c.loop-register.register-index _ c.loop-register-test.true c.loop-register.invariant c.in_ok-show_one.ensures

pub returns : goal.returns
returns c =
    all_shown (λ expected. value_cell expected.alg expected.register (bytes_of expected.value)) c.args.expected.now
    c.loop-register.register-index (omega arith) c.loop-register.invariant
