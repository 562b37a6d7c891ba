use Rattle.std.proofs.Common.{inl, inr, refl, subst}
use Rattle.std.proofs.lemmas.Result.{err_from_is_err_and}
use Rattle.boot_verdict.specs.Names.{ReadsAsLog}
use Rattle.judging.proofs.LogLaws.{log_attested}
use Rattle.judging.specs.Answering.{IsAttestation, IsNoAttestation}
use Rattle.judging.specs.Requests.{AttestRequested, attested_of}
use Rattle.confirming.specs.Matching.{asked_on}
use Rattle.confirming.proofs.quoted.quoted_in.Goals as goal

pub returns-in_err-given-clause-fault : goal.returns-in_err-given-clause-fault
returns-in_err-given-clause-fault g c =
    let p = err_from_is_err_and c.from_residual.result c.from_residual.ensures.1 in
    rw (p.1, p.2)
    (inl (subst (λ (asked : AttestRequested). IsNoAttestation (g.F.Files.inputs c.args.files.now) asked c.in_err-given.field-0.0) c.asked_on-request.ensures
    c.in_err-given.ensures.fault))

-- What was asked of the quote requires registers, so these are read unless memory runs out.
pub returns-in_err-required-clause-fault : goal.returns-in_err-required-clause-fault
returns-in_err-required-clause-fault g c =
    let p = err_from_is_err_and c.from_residual-in_err-required.result c.from_residual-in_err-required.ensures.1 in
    let inputs = g.F.Files.inputs c.args.files.now in
    let is = subst (λ (asked : AttestRequested). IsAttestation inputs asked c.in_ok-given.given) c.asked_on-request.ensures c.in_ok-given.ensures.answer in
    let memory = c.in_err-required.ensures.only is.ranges is.taken.0 in
    rw (p.1, p.2) (inr (memory, (c.in_ok-given.given, is)))

pub returns-in_err-places_by-clause-fault : goal.returns-in_err-places_by-clause-fault
returns-in_err-places_by-clause-fault g c =
    let p = err_from_is_err_and c.from_residual-in_err-places_by.result c.from_residual-in_err-places_by.ensures.1 in
    let inputs = g.F.Files.inputs c.args.files.now in
    let is = subst (λ (asked : AttestRequested). IsAttestation inputs asked c.in_ok-given.given) c.asked_on-request.ensures c.in_ok-given.ensures.answer in
    rw (p.1, p.2) (inr (refl, (c.in_ok-given.given, is)))

pub returns-clause-known : goal.returns-clause-known
returns-clause-known g c =
    let inputs = g.F.Files.inputs c.args.files.now in
    let asked = asked_on c.args.log.now (attested_of c.args.asked) in
    let is = subst (λ (asked : AttestRequested). IsAttestation inputs asked c.in_ok-given.given) c.asked_on-request.ensures c.in_ok-given.ensures.answer in
    subst ReadsAsLog is.log_is (log_attested inputs asked c.in_ok-given.given is refl refl)

pub returns-clause-matched : goal.returns-clause-matched
returns-clause-matched g c =
    let inputs = g.F.Files.inputs c.args.files.now in
    record {
      required = c.in_ok-required.required;
      given = c.in_ok-given.given;
      required_are = c.in_ok-required.ensures.found;
      answer_is = subst (λ (asked : AttestRequested). IsAttestation inputs asked c.in_ok-given.given) c.asked_on-request.ensures
          c.in_ok-given.ensures.answer;
      places_are = c.in_ok-places_by.ensures;
      status_is = c.status_of_answer.ensures;
    }
