use Rattle.std.proofs.Common.{ap, sym, ◌∙◌}
use Rattle.std.specs.Prelude.{option_map}
use Rattle.pcr_banks.specs.Names.{digest_of}
use Rattle.ima_list.proofs.AggregateLaws.{joined_at_first, joined_next, lacks_none}
use Rattle.ima_list.proofs.aggregate.boot_aggregate.Goals as goal

pub loop-register-init : goal.loop-register-init
loop-register-init c = joined_at_first c.new-hasher.result c.args.banks.now c.args.alg c.new-hasher.ensures

pub returns-in_err-read-clause-value : goal.returns-in_err-read-clause-value
returns-in_err-read-clause-value c =
    let none = lacks_none c.args.banks.now c.args.alg c.aggregate_register_count-register-end.result c.loop-register.register
    c.aggregate_register_count-register-end.ensures c.loop-register-test.true c.in_err-read.ensures.value in
    c.from_residual.ensures ∙ ap (option_map (digest_of c.args.alg)) (sym none)

pub loop-register-preserved : goal.loop-register-preserved
loop-register-preserved c =
    joined_next c.loop-register.hasher c.update.new.self c.args.banks.now c.args.alg c.loop-register.register c.in_ok-read.field-0
    c.loop-register.invariant c.in_ok-read.ensures.value
    (rw (← c.bytes.ensures.value) c.update.ensures)
