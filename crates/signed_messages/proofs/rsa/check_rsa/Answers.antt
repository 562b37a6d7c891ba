use Rattle.std.proofs.Common.{inl, inr, rules}
use Rattle.std.specs.Prelude.{IsOk}
use Rattle.tpm_signatures.specs.Spelling.{signature_of}
use Rattle.signed_messages.specs.Keys.{rsa_key_of}
use Rattle.signed_messages.specs.Signing.{IsSignedByRsa, stated}
use Rattle.signed_messages.specs.Refusals.{ReachesRsaVerification}
use Rattle.signed_messages.proofs.SigningLaws.{not_refused, refused, verified, read_has_no_fault, stated_so}
use Rattle.signed_messages.proofs.rsa.check_rsa.Goals as goal

pub returns-in_err-read_signature-clause-only : goal.returns-in_err-read_signature-clause-only
returns-in_err-read_signature-clause-only c =
    λ is. absurd (read_has_no_fault _ _ (c.in_err-read_signature.ensures.only (stated is.scheme is.number)
    (stated_so (rsa_key_of c.args.key) c.args.message.now c.args.signature.now
    c.if-signature-key.false is)))

pub returns-in_err-scheme-clause-only : goal.returns-in_err-scheme-clause-only
returns-in_err-scheme-clause-only c =
    λ is. let not = not_refused (rsa_key_of c.args.key) c.args.message.now c.args.signature.now (signature_of c.in_ok-read_signature.field-0)
    c.if-signature-key.false c.in_ok-read_signature.ensures.found is in
    elim c.in_err-scheme.ensures.refusal [
      | inl scheme ↦ absurd (not.0 scheme.1)
      | inr hash ↦ absurd (not.1 hash.1)
    ]

pub returns-clause-refusal : goal.returns-clause-refusal
returns-clause-refusal c =
    let is_verified : ReachesRsaVerification (rsa_key_of c.args.key) c.args.signature.now = verified (rsa_key_of c.args.key) c.args.signature.now c.in_ok-scheme.scheme
    c.in_ok-scheme.number.now (signature_of c.in_ok-read_signature.field-0) c.in_ok-read_signature.ensures.found c.in_ok-scheme.ensures.found.0
    c.in_ok-scheme.ensures.found.1 in
    let only : IsSignedByRsa (rsa_key_of c.args.key) c.args.message.now c.args.signature.now → IsOk c.answer-2.result = search rules in
    refused (rsa_key_of c.args.key) c.args.message.now c.args.signature.now c.answer-2.result c.answer-2.ensures.refusal is_verified only
