use Rattle.std.proofs.Common.{sym, ◌∙◌, true≢false}
use Rattle.signed_messages.specs.Signing.{IsValid}
use Rattle.signed_messages.proofs.SigningLaws.{last_hash}
use Rattle.signed_messages.proofs.rsa.is_valid_by_any.Goals as goal
use Rattle.signed_messages.proofs.rsa.is_valid_by_any.Goals.{then-is_valid_with, else-is_valid_with}

pub returns-else-is_valid_with-2 : goal.returns-else-is_valid_with-2
returns-else-is_valid_with-2 c =
    elim c.if-is_valid_with.branch [
      | then-is_valid_with w ↦ absurd (true≢false (sym w.if-is_valid_with.true ∙ sym w.value-is ∙ c.if-is_valid_with-2.false))
      | else-is_valid_with w ↦
          last_hash (λ hash kind. IsValid kind hash c.args.modulus.now c.args.message.now c.args.number.now) _
          (λ valid. true≢false (sym (c.is_valid_with.ensures.1 valid) ∙ w.if-is_valid_with.false))
          (λ valid. true≢false (sym (w.is_valid_with-else-is_valid_with.ensures.1 valid) ∙ sym w.value-is ∙ c.if-is_valid_with-2.false))
          c.is_valid_with-else-is_valid_with-2.ensures
    ]
