use Rattle.std.proofs.Common.{◌≡◌, None, Err, ap, sym, ◌∙◌}
use Rattle.std.proofs.lemmas.Result.{err_from_is_err_and}
use Rattle.byte_fields.proofs.Steps.{ok_is}
use Rattle.boot_log.specs.Names.{algs_in}
use Rattle.boot_verdict.specs.declared.verifier.VerifyFault.{VerifyFault}
use Rattle.boot_verdict.proofs.ReplayLaws.{one_list}
use Rattle.boot_verdict.proofs.VerdictLaws.{log_viewed}
use Rattle.tpm_quotes.specs.Spelling.{quote_of}
use Rattle.attestations.specs.Judging.{attestation_of, cause_against}
use Rattle.attestations.specs.Policies.{terms_of}
use Rattle.attestations.proofs.JudgeLaws.{attested_by, boot_refused, some_not_none}
use Rattle.attestations.proofs.attested.attest.Goals as goal

pub returns-in_err-view-clause-only : goal.returns-in_err-view-clause-only
returns-in_err-view-clause-only c =
    λ table events entries quote sound message taken log list genuine none.
    let there = c.in_err-view.ensures.only table events log in
    absurd cc

pub returns-in_err-known-clause-fault : goal.returns-in_err-known-clause-fault
returns-in_err-known-clause-fault c =
    let p = err_from_is_err_and c.from_residual-in_err-known.result c.from_residual-in_err-known.ensures.1 in
    let sound = c.in_ok-view.ensures.sound in
    rw (p.1, p.2) (
      sym c.fault.ensures ∙ c.in_default.is,
      record {
        quote = quote_of c.in_ok-quote.quote;
        message_is = c.in_ok-quote.ensures.found;
        taken = c.in_ok-quote.ensures.asked;
      },
      boot_refused c.args.log.now c.args.list.now _
          (c.in_err-known.ensures.fault c.args.log.now (record { table = sound.0; events = sound.1; log_is = sound.2 }))
          (λ same. c.in_err-known.ensures.memory (ap (λ (f : VerifyFault). Err f) same)),
    )

pub returns-in-Some-cause_against-clause-only : goal.returns-in-Some-cause_against-clause-only
returns-in-Some-cause_against-clause-only c =
    let is = c.in_ok-known.ensures.known in
    λ table events entries quote sound message taken log list genuine none.
    let viewed = log_viewed c.in_ok-view.ensures.found log in
    let read = c.cause_against.ensures c.args.list.now table events viewed (c.registers-start.ensures table events viewed) (rw c.in_ok-known.ensures.before c.banks_for.ensures.selected) is in
    let quoted : quote_of c.in_ok-quote.quote ≡ quote = sym (ok_is quote (quote_of c.in_ok-quote.quote) (c.in_ok-quote.ensures.only quote message taken)) in
    let listed = one_list is.list_is list in
    let here : cause_against c.args.policy.now.rule (algs_in table) events is.entries (quote_of c.in_ok-quote.quote) ≡ None =
    (λ i. cause_against c.args.policy.now.rule (algs_in table) events (listed i) (quoted i)) ∙ none in
    absurd (some_not_none c.in-Some-cause_against.cause (sym c.in-Some-cause_against.is ∙ read ∙ here))

pub returns-in-Some-cause_against-clause-fault : goal.returns-in-Some-cause_against-clause-fault
returns-in-Some-cause_against-clause-fault c =
    let sound = c.in_ok-view.ensures.sound in
    let is = c.in_ok-known.ensures.known in
    let viewed = log_viewed c.in_ok-view.ensures.found sound.2 in
    let read = c.cause_against.ensures c.args.list.now sound.0 sound.1 viewed (c.registers-start.ensures sound.0 sound.1 viewed) (rw c.in_ok-known.ensures.before c.banks_for.ensures.selected) is in (
      sym c.fault.ensures ∙ c.in_default.is,
      record {
        table = sound.0;
        events = sound.1;
        entries = is.entries;
        asked = record {
          quote = quote_of c.in_ok-quote.quote;
          message_is = c.in_ok-quote.ensures.found;
          taken = c.in_ok-quote.ensures.asked;
        };
        log_is = sound.2;
        list_is = is.list_is;
        genuine = is.genuine;
        cause_is = sym read ∙ c.in-Some-cause_against.is;
      },
    )

pub returns-in-None-clause-attested : goal.returns-in-None-clause-attested
returns-in-None-clause-attested c =
    let sound = c.in_ok-view.ensures.sound in
    let is = c.in_ok-known.ensures.known in
    let viewed = log_viewed c.in_ok-view.ensures.found sound.2 in
    let read = c.cause_against.ensures c.args.list.now sound.0 sound.1 viewed (c.registers-start.ensures sound.0 sound.1 viewed) (rw c.in_ok-known.ensures.before c.banks_for.ensures.selected) is in
    attested_by c.args.log.now c.args.list.now c.args.message.now (terms_of c.args.policy.now) sound.0 sound.1 is.entries
    (quote_of c.in_ok-quote.quote) (attestation_of c.confirmed.result) (sym c.fault.ensures ∙ c.in_default.is) c.in_ok-quote.ensures.found
    c.in_ok-quote.ensures.asked sound.2 is.list_is is.genuine (sym read ∙ c.in-None.is)
    (c.confirmed.ensures c.args.list.now sound.0 sound.1 viewed (c.registers-start.ensures sound.0 sound.1 viewed) is)
