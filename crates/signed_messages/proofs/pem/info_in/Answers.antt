use Rattle.std.proofs.Common.{refl, ◌∙◌, inr}
use Rattle.tpm_keys.specs.KeyInfo.{key_base64}
use Rattle.signed_messages.proofs.DecodingLaws.{decoded_is, not_undecoded}
use Rattle.signed_messages.proofs.pem.info_in.Goals as goal

pub returns-in-Ok-clause-found : goal.returns-in-Ok-clause-found
returns-in-Ok-clause-found c =
    λ numbers key bytes known e.
    let text = key_base64 numbers in
    let is = c.deref.ensures.value ∙ c.in_ok-text.ensures text (c.between.ensures text e) in
    decoded_is numbers key c.deref.result.now c.in-Ok.info.items bytes known is c.in-Ok.ensures.strict c.in-Ok.ensures.ok

pub returns-in-Err-DecodeError-clause-fault : goal.returns-in-Err-DecodeError-clause-fault
returns-in-Err-DecodeError-clause-fault c = inr (
  refl,
  λ key is.
      let text = key_base64 is.numbers in
      let joined = c.deref.ensures.value ∙ c.in_ok-text.ensures text (c.between.ensures text is.spelled) in
      not_undecoded is.numbers key c.deref.result.now c.in-Err-DecodeError.field-0-0 is.are_bytes is.known joined c.in-Err-DecodeError.ensures.strict
      (rw c.in-Err-DecodeError.field-0-is at c.in-Err-DecodeError.ensures.err),
)
