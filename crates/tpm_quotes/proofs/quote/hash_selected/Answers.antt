use Rattle.std.proofs.Common.{◌≡◌, sym, ◌∙◌, arith}
use Rattle.tpm_quotes.specs.Spelling.{selection_of}
use Rattle.tpm_quotes.proofs.JoiningLaws.{all_below, also_takes, lacks_register, passes_register, takes_register}
use Rattle.tpm_quotes.proofs.quote.hash_selected.Goals as goal
use Rattle.tpm_quotes.proofs.quote.hash_selected.Goals.{then-selects+in_ok-value_of, else-selects}

pub returns-in_err-value_of : goal.returns-in_err-value_of
returns-in_err-value_of g c =
    λ alg taken has. rw (c.from_residual.ensures, all_below (selection_of c.args.selection.now))
    (lacks_register c.args.hasher.now c.loop-register.hasher (g.V.RegisterValues.values c.args.registers.now) c.args.selection.now.alg c.args.selection.now.bits.now
    c.loop-register.register c.loop-register.invariant (sym c.selects.ensures ∙ c.if-selects.true) c.loop-register-test.true
    c.in_err-value_of.ensures)

pub loop-register-preserved : goal.loop-register-preserved
loop-register-preserved g c =
    elim c.if-selects.branch [
      | then-selects+in_ok-value_of w ↦
          rw w.hasher-is (takes_register c.args.hasher.now c.loop-register.hasher w.update.new.self (g.V.RegisterValues.values c.args.registers.now)
          c.args.selection.now.alg c.args.selection.now.bits.now c.loop-register.register w.in_ok-value_of.field-0 c.loop-register.invariant
          (sym c.selects.ensures ∙ w.if-selects.true) w.in_ok-value_of.ensures (rw (← w.bytes.ensures.value) w.update.ensures))
      | else-selects w ↦
          rw w.hasher-is (passes_register c.args.hasher.now c.loop-register.hasher (g.V.RegisterValues.values c.args.registers.now) c.args.selection.now.alg
          c.args.selection.now.bits.now c.loop-register.register c.loop-register.invariant (sym c.selects.ensures ∙ w.if-selects.false))
    ]

pub returns : goal.returns
returns g c =
    let last : c.loop-register.register ≡ 24 = omega arith in
    λ alg taken has. also_takes c.args.hasher.now c.loop-register.hasher (g.V.RegisterValues.values c.args.registers.now) (selection_of c.args.selection.now) alg
    taken (rw last at c.loop-register.invariant) has
