use Rattle.std.proofs.Common.{◌<◌, length, arith}
use Rattle.byte_streams.proofs.PieceLaws.{item_sent, item_fails, all_sent}
use Rattle.pcr_values.specs.Names.{every_register, register_change}
use Rattle.pcr_values.proofs.RegisterLaws.{every_count}
use Rattle.pcr_values.proofs.texts.registers.write_registers.Goals as goal

pub returns-in_err-write_register : goal.returns-in_err-write_register
returns-in_err-write_register g c =
    let lt : c.loop-number.number < length every_register = omega (arith, every_count) in
    let stopped = rw (← c.register_numbered-alg.ensures) at c.in_err-write_register.ensures in
    item_fails _ (λ register. register_change c.args.now.now c.args.start.now register.0 register.1) every_register c.loop-number.number _ _ _ _ _ _ lt
    c.from_residual.ensures.1 c.loop-number.invariant stopped

pub loop-number-preserved : goal.loop-number-preserved
loop-number-preserved g c =
    let lt : c.loop-number.number < length every_register = omega (arith, every_count) in
    let written = rw (← c.register_numbered-alg.ensures) at c.in_ok-write_register.ensures in
    item_sent (λ register. register_change c.args.now.now c.args.start.now register.0 register.1) every_register c.loop-number.number _ _ _ _ _ lt c.loop-number.invariant written

pub returns : goal.returns
returns g c =
    all_sent (λ register. register_change c.args.now.now c.args.start.now register.0 register.1) every_register c.loop-number.number _ _ _ (omega (arith, every_count))
    c.loop-number.invariant
