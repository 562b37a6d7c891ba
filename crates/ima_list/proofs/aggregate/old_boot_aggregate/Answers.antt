use Rattle.std.proofs.Common.{ap, arith, sym, ◌∙◌}
use Rattle.std.specs.Prelude.{option_map}
use Rattle.pcr_banks.specs.Names.{bank_of, digest_of, hash_of}
use Rattle.ima_list.proofs.AggregateLaws.{joined_at_first, joined_next, not_active}
use Rattle.ima_list.proofs.aggregate.old_boot_aggregate.Goals as goal

pub loop-register-init : goal.loop-register-init
loop-register-init c = joined_at_first c.new-hasher.result c.args.registers.now c.args.alg c.new-hasher.ensures

pub loop-register-preserved : goal.loop-register-preserved
loop-register-preserved c =
    joined_next c.loop-register.hasher c.update.new.self c.args.registers.now c.args.alg c.loop-register.register c.in_ok-read.field-0
    c.loop-register.invariant c.in_ok-read.ensures.value
    (rw (← c.bytes.ensures.value) c.update.ensures)

pub returns-in_err-read : goal.returns-in_err-read
returns-in_err-read c =
    let none = not_active (bank_of c.args.registers.now c.args.alg) (hash_of c.args.alg)
    (λ active. c.in_err-read.ensures.found active (omega arith)) in
    c.from_residual.ensures ∙ ap (option_map (digest_of c.args.alg)) (sym none)
