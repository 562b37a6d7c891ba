use Rattle.std.proofs.Common.{◌≡◌, ◌∙◌, drop, sym, arith}
use Rattle.std.proofs.lemmas.List.{take_rest}
use Rattle.tpm_keys.specs.KeyInfo.{without_zeros}
use Rattle.tpm_keys.proofs.DerLaws.{none_left, others_stay, zero_goes}
use Rattle.tpm_keys.proofs.der.without_zeros.Goals as goal
use Rattle.tpm_keys.proofs.der.without_zeros.Goals.{then-loop-zeros-test+else-bytes-zeros-eq0, else-loop-zeros-test}

pub loop-zeros-preserved : goal.loop-zeros-preserved
loop-zeros-preserved c =
    let within = c.loop-zeros-test.true in (
      omega (arith, within),
      sym (zero_goes c.args.bytes.now c.loop-zeros.zeros within c.if-bytes-zeros-eq0.true) ∙ c.loop-zeros.invariant.1,
    )

pub returns-clause-value : goal.returns-clause-value
returns-clause-value c =
    let stay : without_zeros (drop c.loop-zeros.zeros c.args.bytes.now) ≡ drop c.loop-zeros.zeros c.args.bytes.now = elim c.loop-zeros-test.branch [
      | then-loop-zeros-test+else-bytes-zeros-eq0 w ↦ others_stay c.args.bytes.now c.loop-zeros.zeros w.loop-zeros-test.true w.if-bytes-zeros-eq0.false
      | else-loop-zeros-test w ↦ none_left c.args.bytes.now c.loop-zeros.zeros w.loop-zeros-test.false
    ] in
    take_rest c.args.bytes.now c.loop-zeros.zeros ∙ sym stay ∙ c.loop-zeros.invariant.1
