use Rattle.std.proofs.lemmas.Result.{err_from_is_err_and}
use Rattle.tpm_quotes.specs.Spelling.{quote_of}
use Rattle.judging.specs.Requests.{judgement_of, resume_of}
use Rattle.judging.proofs.AttestLaws.{not_known}
use Rattle.judging.proofs.attesting.state_by.Goals as goal

pub returns-in_err-state-clause-fault : goal.returns-in_err-state-clause-fault
returns-in_err-state-clause-fault g c =
    let p = err_from_is_err_and c.from_residual.result c.from_residual.ensures.1 in
    let why = c.in_err-state.ensures.fault in
    rw (p.1, p.2)
    (not_known (g.F.Files.inputs c.args.files.now) (quote_of c.args.quote.now) (resume_of (judgement_of c.args.wanted)) c.in_err-state.field-0.0 why)
