use Rattle.std.proofs.Common.{ℕ, List, Err, sym, subst, ap, ◌∙◌, inr}
use Rattle.std.proofs.lemmas.Result.{err_from_is_err_and}  -- what the exit of a `?` returns
use Rattle.std.proofs.lemmas.Bool.{false≢true}
use Rattle.signed_messages.specs.Keys.{MessageKey, key_of}
use Rattle.signed_messages.specs.Signing.{IsSignedBy}
use Rattle.signed_messages.specs.parts.PemReading.{IsInfoIn}
use Rattle.signed_messages.proofs.KeyTextLaws.{no_key_fault, only_memory, refusal_fault}
use Rattle.signed_messages.proofs.key_text.check_by_pem.Goals as goal

pub returns-in_err-info-clause-only : goal.returns-in_err-info-clause-only
returns-in_err-info-clause-only c =
    λ signed.
    let p = err_from_is_err_and c.from_residual.result c.from_residual.ensures.1 in
    let memory = only_memory c.args.pem.now c.args.message.now c.args.signature.now c.in_err-info.field-0.0 c.in_err-info.ensures.fault signed in
    inr (p.1 ∙ ap Err (p.2 ∙ memory))

pub returns-in_err-key-clause-only : goal.returns-in_err-key-clause-only
returns-in_err-key-clause-only c =
    λ signed.
    let p = err_from_is_err_and c.from_residual-in_err-key.result c.from_residual-in_err-key.ensures.1 in
    let info = subst (λ (xs : List ℕ). IsInfoIn c.args.pem.now xs) (sym c.deref.ensures.value) c.in_ok-info.ensures.found in
    let memory = only_memory c.args.pem.now c.args.message.now c.args.signature.now c.in_err-key.field-0.0 (c.in_err-key.ensures.fault info) signed in
    inr (p.1 ∙ ap Err (p.2 ∙ memory))

pub returns-in_err-key-clause-fault : goal.returns-in_err-key-clause-fault
returns-in_err-key-clause-fault c =
    let p = err_from_is_err_and c.from_residual-in_err-key.result c.from_residual-in_err-key.ensures.1 in
    let info = subst (λ (xs : List ℕ). IsInfoIn c.args.pem.now xs) (sym c.deref.ensures.value) c.in_ok-info.ensures.found in
    let is = no_key_fault c.args.pem.now c.args.message.now c.args.signature.now c.in_err-key.field-0.0 (c.in_err-key.ensures.fault info) in
    rw (p.1, p.2) is

pub returns-in_err-check_signature-clause-only : goal.returns-in_err-check_signature-clause-only
returns-in_err-check_signature-clause-only c =
    λ signed.
    let info = subst (λ (xs : List ℕ). IsInfoIn c.args.pem.now xs) (sym c.deref.ensures.value) c.in_ok-info.ensures.found in
    let same = c.in_ok-key.ensures.one info signed.0 signed.1 in
    absurd (false≢true (c.in_err-check_signature.ensures.only
    (subst (λ (k : MessageKey). IsSignedBy k c.args.message.now c.args.signature.now) (sym same) signed.2)))

pub returns-in_err-check_signature-clause-fault : goal.returns-in_err-check_signature-clause-fault
returns-in_err-check_signature-clause-fault c =
    let p = err_from_is_err_and c.from_residual-in_err-check_signature.result c.from_residual-in_err-check_signature.ensures.1 in
    let is = refusal_fault c.args.pem.now c.args.message.now c.args.signature.now (key_of c.in_ok-key.key) c.in_err-check_signature.field-0.0
    c.in_ok-key.ensures.found c.in_err-check_signature.ensures.refusal in
    rw (p.1, p.2) is
