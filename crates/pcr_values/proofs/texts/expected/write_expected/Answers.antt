use Rattle.std.proofs.Common.{arith}
use Rattle.byte_streams.proofs.PieceLaws.{all_sent, item_fails, item_sent}
use Rattle.pcr_values.specs.Names.{expected_line}
use Rattle.pcr_values.proofs.texts.expected.write_expected.Goals as goal

pub returns-in_err-write_line : goal.returns-in_err-write_line
returns-in_err-write_line g c =
    item_fails _ expected_line c.args.expected.now c.loop-register.register-index _ _ _ _ _ _ c.loop-register-test.true
    c.from_residual.ensures.1 c.loop-register.invariant c.in_err-write_line.ensures

pub loop-register-preserved : goal.loop-register-preserved
loop-register-preserved g c =
    item_sent expected_line c.args.expected.now c.loop-register.register-index _ _ _ _ _ c.loop-register-test.true c.loop-register.invariant
    c.in_ok-write_line.ensures

pub returns : goal.returns
returns g c =
    all_sent expected_line c.args.expected.now c.loop-register.register-index _ _ _ (omega arith) c.loop-register.invariant
