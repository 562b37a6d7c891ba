use Rattle.std.proofs.Common.{◌<◌, length, arith}
use Rattle.byte_streams.proofs.PieceLaws.{item_sent, item_fails, all_sent}
use Rattle.pcr_values.specs.Names.{all_registers}
use Rattle.pcr_values.proofs.RegisterLaws.{register_count, register_at}
use Rattle.growing_lists.specs.CheckpointTexts.{value_line}
use Rattle.growing_lists.proofs.texts.checkpoint.write_values.Goals as goal

pub returns-in_err-write_value : goal.returns-in_err-write_value
returns-in_err-write_value g c =
    let lt : c.loop-register.register < length all_registers = omega (arith, register_count) in
    let is = register_at c.loop-register.register (omega arith) in
    let text = value_line c.args.banks.now c.args.alg in
    let stopped = rw (← is) at c.in_err-write_value.ensures in
    item_fails _ text all_registers c.loop-register.register 0 _ _ _ _ _ lt c.from_residual.ensures.1 c.loop-register.invariant stopped

pub loop-register-preserved : goal.loop-register-preserved
loop-register-preserved g c =
    let lt : c.loop-register.register < length all_registers = omega (arith, register_count) in
    let is = register_at c.loop-register.register (omega arith) in
    let text = value_line c.args.banks.now c.args.alg in
    let written = rw (← is) at c.in_ok-write_value.ensures in
    item_sent text all_registers c.loop-register.register 0 _ _ _ _ lt c.loop-register.invariant written

pub returns : goal.returns
returns g c =
    let text = value_line c.args.banks.now c.args.alg in
    all_sent text all_registers c.loop-register.register _ _ _ (omega (arith, register_count)) c.loop-register.invariant
