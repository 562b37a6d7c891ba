use Rattle.std.proofs.Common.{List, inl, inr, subst, ℕ}
use Rattle.std.proofs.lemmas.Result.{err_from_is_err_and}
use Rattle.signed_messages.specs.KeyTexts.{IsCheckFault, IsSignedByText}
use Rattle.judging.specs.Requests.{held_bytes}
use Rattle.judging.proofs.signing.check_by_key.Goals as goal

pub returns-in_err-signature-clause-fault : goal.returns-in_err-signature-clause-fault
returns-in_err-signature-clause-fault g c =
    let p = err_from_is_err_and c.from_residual-in_err-signature.result c.from_residual-in_err-signature.ensures.1 in
    let why = rw c.in_ok-key.ensures.inputs at c.in_err-signature.ensures.fault in
    rw (p.1, p.2) (inr (inl why))

pub returns-in_err-check_signed-clause-fault : goal.returns-in_err-check_signed-clause-fault
returns-in_err-check_signed-clause-fault g c =
    let p = err_from_is_err_and c.from_residual-in_err-check_signed.result c.from_residual-in_err-check_signed.ensures.1 in
    let message = c.args.message.now in
    let first = c.in_err-check_signed.field-0.0 in
    let by_key = subst (λ (key : List ℕ). IsCheckFault key message c.bytes-signature_bytes.result.now first) c.bytes-key_bytes.ensures
    c.in_err-check_signed.ensures.fault in
    let why = subst (λ (signature : List ℕ). IsCheckFault (held_bytes c.in_ok-key.key) message signature first) c.bytes-signature_bytes.ensures by_key in
    let held = rw c.in_ok-key.ensures.inputs at c.in_ok-signature.ensures.all in
    rw p.1 (inr (inr (held_bytes c.in_ok-key.key, c.in_ok-key.ensures.all, (held_bytes c.in_ok-signature.signature, held, (first, why, p.2)))))

pub returns-clause-signed : goal.returns-clause-signed
returns-clause-signed g c =
    let message = c.args.message.now in
    let by_key = subst (λ (key : List ℕ). IsSignedByText key message c.bytes-signature_bytes.result.now) c.bytes-key_bytes.ensures
    c.in_ok-check_signed.ensures.signed in
    let signed = subst (λ (signature : List ℕ). IsSignedByText (held_bytes c.in_ok-key.key) message signature) c.bytes-signature_bytes.ensures by_key in
    let held = rw c.in_ok-key.ensures.inputs at c.in_ok-signature.ensures.all in
    (held_bytes c.in_ok-key.key, c.in_ok-key.ensures.all, (held_bytes c.in_ok-signature.signature, held, signed))
