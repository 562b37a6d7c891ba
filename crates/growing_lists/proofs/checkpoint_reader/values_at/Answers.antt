use Rattle.std.proofs.Common.{arith, subst, ℕ, ◌≡◌, ◌<◌}
use Rattle.pcr_banks.specs.Names.{register_count}
use Rattle.growing_lists.proofs.CheckpointLaws.{AreTaken, all_taken, none_taken, not_ended, takes_more}
use Rattle.growing_lists.proofs.checkpoint_reader.values_at.Goals as goal

pub loop-register-init : goal.loop-register-init
loop-register-init c = none_taken c.args.start c.args.text.now

pub returns-in_err-next : goal.returns-in_err-next
returns-in_err-next c =
    λ known alg more have stands active is.
    let lt : c.loop-register._register < register_count = omega (arith, c.loop-register-test.true) in
    absurd (not_ended c.args.start c.args.text.now c.loop-register.banks c.loop-register._register c.loop-register.rest.now
    c.loop-register.invariant lt c.in_err-next.ensures known alg more have stands active is)

pub loop-register-preserved : goal.loop-register-preserved
loop-register-preserved c =
    let lt : c.loop-register._register < register_count = omega (arith, c.loop-register-test.true) in
    takes_more c.args.start c.args.text.now c.loop-register.banks c.in_ok-next.next c.loop-register._register c.loop-register.rest.now
    c.in_ok-next.after.now c.loop-register.invariant lt c.in_ok-next.ensures

pub returns : goal.returns
returns c =
    let end : c.loop-register._register ≡ 24 = omega arith in
    all_taken c.args.start c.args.text.now c.loop-register.banks c.loop-register.rest.now
    (subst (λ (n : ℕ). AreTaken c.args.start c.args.text.now c.loop-register.banks n c.loop-register.rest.now) end c.loop-register.invariant)
