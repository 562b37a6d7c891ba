use Rattle.std.proofs.Common.{inl, inr, refl, sym, ◌∙◌}
use Rattle.std.proofs.lemmas.Result.{err_from_is_err_and}
use Rattle.tpm_quotes.specs.Spelling.{quote_of}
use Rattle.judging.specs.Requests.{attested_of, held_bytes}
use Rattle.judging.proofs.AttestLaws.{none_when, not_taken, of_fault, of_given}
use Rattle.judging.proofs.attesting.attest.Goals as goal

pub returns-then-is_some-clause-fault : goal.returns-then-is_some-clause-fault
returns-then-is_some-clause-fault g c =
    inl (
      refl,
      λ ranges taken.
          not_taken (attested_of c.args.request) c.in_ok-required.required ranges taken c.in_ok-required.ensures.found
          (rw c.fault.ensures at (sym c.is_some.ensures ∙ c.if-is_some.true)),
    )

pub returns-in_err-signature-clause-fault : goal.returns-in_err-signature-clause-fault
returns-in_err-signature-clause-fault g c =
    let p = err_from_is_err_and c.from_residual-in_err-signature.result c.from_residual-in_err-signature.ensures.1 in
    let none = none_when _ (rw c.fault.ensures at (sym c.is_some.ensures ∙ c.if-is_some.false)) in
    let why = rw (c.in_ok-message.ensures.inputs, c.bytes-bytes.ensures) at c.in_err-signature.ensures.fault in
    rw (p.1, p.2)
    (inr (inr (
      c.in_ok-required.required,
      (c.in_ok-required.ensures.found, none),
      inr (held_bytes c.in_ok-message.message, c.in_ok-message.ensures.all, inl why),
    )))

pub returns-in_err-quote-clause-fault : goal.returns-in_err-quote-clause-fault
returns-in_err-quote-clause-fault g c =
    let p = err_from_is_err_and c.from_residual-in_err-quote.result c.from_residual-in_err-quote.ensures.1 in
    let none = none_when _ (rw c.fault.ensures at (sym c.is_some.ensures ∙ c.if-is_some.false)) in
    let vouched = rw (c.in_ok-message.ensures.inputs, c.bytes-bytes.ensures) at c.in_ok-signature.ensures.vouched in
    let why = rw c.bytes-bytes.ensures at c.in_err-quote.ensures.fault in
    rw (p.1, p.2)
    (inr (inr (
      c.in_ok-required.required,
      (c.in_ok-required.ensures.found, none),
      inr (held_bytes c.in_ok-message.message, c.in_ok-message.ensures.all, inr (inl ((c.in_ok-signature.signature, vouched), why))),
    )))

pub returns-clause-answer : goal.returns-clause-answer
returns-clause-answer g c =
    let none = none_when _ (rw c.fault.ensures at (sym c.is_some.ensures ∙ c.if-is_some.false)) in
    let vouched = rw (c.in_ok-message.ensures.inputs, c.bytes-bytes.ensures) at c.in_ok-signature.ensures.vouched in
    of_given c.answer_by_quote.result _ _
    (λ given is. is c.in_ok-required.required (c.in_ok-required.ensures.found, none) (held_bytes c.in_ok-message.message) (record {
      message_is = c.in_ok-message.ensures.all;
      vouched = vouched;
      quote_is = rw c.bytes-bytes.ensures at c.in_ok-quote.ensures.found;
      not_refused = c.in_ok-quote.ensures.asked;
    }))
    (rw (c.in_ok-signature.ensures.inputs, c.in_ok-message.ensures.inputs) at c.answer_by_quote.ensures.answer)

pub returns-clause-fault : goal.returns-clause-fault
returns-clause-fault g c =
    let none = none_when _ (rw c.fault.ensures at (sym c.is_some.ensures ∙ c.if-is_some.false)) in
    let vouched = rw (c.in_ok-message.ensures.inputs, c.bytes-bytes.ensures) at c.in_ok-signature.ensures.vouched in
    of_fault c.answer_by_quote.result _ _
    (λ fault why. inr (inr (
      c.in_ok-required.required,
      (c.in_ok-required.ensures.found, none),
      inr (
        held_bytes c.in_ok-message.message,
        c.in_ok-message.ensures.all,
        inr (inr (
          c.in_ok-signature.signature,
          quote_of c.in_ok-quote.quote,
          record {
            message_is = c.in_ok-message.ensures.all;
            vouched = vouched;
            quote_is = rw c.bytes-bytes.ensures at c.in_ok-quote.ensures.found;
            not_refused = c.in_ok-quote.ensures.asked;
          },
          why,
        )),
      ),
    )))
    (rw (c.in_ok-signature.ensures.inputs, c.in_ok-message.ensures.inputs) at c.answer_by_quote.ensures.fault)
