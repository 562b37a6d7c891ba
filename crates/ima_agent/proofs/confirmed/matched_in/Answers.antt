use Rattle.std.proofs.lemmas.Result.{IfErr-weaker, IfOk-weaker, err_from_is_err_and}
use Rattle.ima_agent.proofs.MatchingLaws.{known_for, not_looked, not_matched}
use Rattle.ima_agent.proofs.confirmed.matched_in.Goals as goal

pub returns-in_err-look_through-clause-fault : goal.returns-in_err-look_through-clause-fault
returns-in_err-look_through-clause-fault g c =
    let p = err_from_is_err_and c.from_residual.result c.from_residual.ensures.1 in
    rw (p.1, p.2) (not_looked (g.F.Files.inputs c.args.files.now) c.args.log.now c.in_err-look_through.field-0.0 c.args.form c.args.confirmed_by.now
    c.in_err-look_through.ensures.fault)

pub returns-clause-matched : goal.returns-clause-matched
returns-clause-matched g c = rw c.confirming_by-confirming.ensures at c.matching_in.ensures.matched

pub returns-clause-known : goal.returns-clause-known
returns-clause-known g c =
    IfOk-weaker c.matching_in.result _ _
    (λ matched is. known_for c.args.form c.args.confirmed_by.now c.args.log.now c.in_ok-look_through.ensures.ok
    (rw c.confirming_by-confirming.ensures at is)) c.matching_in.ensures.compared

pub returns-clause-fault : goal.returns-clause-fault
returns-clause-fault g c =
    IfErr-weaker c.matching_in.result _ _
    (λ fault is. not_matched (g.F.Files.inputs c.args.files.now) c.args.log.now fault c.args.form c.args.confirmed_by.now
    (rw c.confirming_by-confirming.ensures at is)) c.matching_in.ensures.fault
