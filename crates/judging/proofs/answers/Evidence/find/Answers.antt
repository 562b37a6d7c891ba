use Rattle.std.proofs.Common.{ap, inl}
use Rattle.judging.specs.Requests.{location_of}
use Rattle.judging.proofs.OpeningLaws.{either_so, found_so, not_loaded}
use Rattle.judging.proofs.answers.Evidence.find.Goals as goal

pub returns-in-HcrtmLog-clause-found : goal.returns-in-HcrtmLog-clause-found
returns-in-HcrtmLog-clause-found g c =
    let inputs = g.F.Files.inputs c.args.files.now in
    found_so c.find_loaded.result _ _ _
    (either_so (λ fault is. inl (not_loaded inputs (location_of c.args.request.list) _ fault (ap location_of c.in-HcrtmLog.is) is)) (λ fault is. is))
    c.find_loaded.ensures.found
