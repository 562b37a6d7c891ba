use Rattle.std.proofs.Common.{ℕ, List, inl}
use Rattle.tpm_signatures.specs.Spelling.{signature_of}
use Rattle.signed_messages.specs.Keys.{ecc_key_of}
use Rattle.signed_messages.specs.Plain.{IsPlain}
use Rattle.signed_messages.specs.Signing.{stated_ecdsa}
use Rattle.signed_messages.proofs.EccLaws.{refused_ecc, signed_as_stated, signed_plainly, it_states, verified_stated}
use Rattle.signed_messages.proofs.PlainLaws.{plain_has_no_fault}
use Rattle.signed_messages.proofs.SigningLaws.{read_has_no_fault}
use Rattle.signed_messages.proofs.ecc.check_ecc.Goals as goal

pub returns-in-Ok-clause-refusal : goal.returns-in-Ok-clause-refusal
returns-in-Ok-clause-refusal c =
    let key = ecc_key_of c.args.key in
    let message = c.args.message.now in
    let bytes = c.args.signature.now in
    refused_ecc key message bytes c.answer.result c.answer.ensures.refusal (inl (c.in-Ok.r.now, c.in-Ok.s.now, c.in-Ok.ensures.found))
    (λ signed. c.answer.ensures.signed.1
    (c.is_signed_plainly.ensures.1 (signed_plainly key message bytes c.in-Ok.r.now c.in-Ok.s.now c.in-Ok.ensures.found signed)))

pub returns-in_err-read_signature-clause-only : goal.returns-in_err-read_signature-clause-only
returns-in_err-read_signature-clause-only c =
    let key = ecc_key_of c.args.key in
    let bytes = c.args.signature.now in
    let not : (x y : List ℕ) → IsPlain bytes x y → ⊥ =
    λ x y plain. plain_has_no_fault (x, y) c.in_default.field-0 (c.in_default.ensures.only x y plain) in
    λ signed. absurd (read_has_no_fault _ _ (c.in_err-read_signature.ensures.only (stated_ecdsa signed.hash signed.r signed.s)
    (it_states key c.args.message.now bytes not signed)))

pub returns-clause-only : goal.returns-clause-only
returns-clause-only c =
    let key = ecc_key_of c.args.key in
    let bytes = c.args.signature.now in
    let not : (x y : List ℕ) → IsPlain bytes x y → ⊥ =
    λ x y plain. plain_has_no_fault (x, y) c.in_default.field-0 (c.in_default.ensures.only x y plain) in
    λ signed. c.answer-2.ensures.signed.1 (c.is_valid.ensures.1 (signed_as_stated key c.args.message.now bytes c.in_ok-hash.hash c.in_ok-hash.r.now
    c.in_ok-hash.s.now (signature_of c.in_ok-read_signature.field-0) not c.in_ok-read_signature.ensures.found c.in_ok-hash.ensures.found.1 signed))

pub returns-clause-refusal : goal.returns-clause-refusal
returns-clause-refusal c =
    let key = ecc_key_of c.args.key in
    let message = c.args.message.now in
    let bytes = c.args.signature.now in
    let read = signature_of c.in_ok-read_signature.field-0 in
    let not : (x y : List ℕ) → IsPlain bytes x y → ⊥ =
    λ x y plain. plain_has_no_fault (x, y) c.in_default.field-0 (c.in_default.ensures.only x y plain) in
    refused_ecc key message bytes c.answer-2.result c.answer-2.ensures.refusal
    (verified_stated key bytes c.in_ok-hash.hash c.in_ok-hash.r.now c.in_ok-hash.s.now read c.in_ok-read_signature.ensures.found
    c.in_ok-hash.ensures.found.0 c.in_ok-hash.ensures.found.1)
    (λ signed. c.answer-2.ensures.signed.1 (c.is_valid.ensures.1 (signed_as_stated key message bytes c.in_ok-hash.hash c.in_ok-hash.r.now
    c.in_ok-hash.s.now read not c.in_ok-read_signature.ensures.found c.in_ok-hash.ensures.found.1 signed)))
