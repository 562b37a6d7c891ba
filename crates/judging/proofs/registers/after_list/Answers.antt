use Rattle.std.proofs.Common.{ap, inl}
use Rattle.std.proofs.lemmas.Result.{IfErr-weaker}
use Rattle.judging.specs.Requests.{location_of}
use Rattle.judging.proofs.OpeningLaws.{either_so, not_loaded}
use Rattle.judging.proofs.registers.after_list.Goals as goal

pub returns-in-HcrtmLog-clause-fault : goal.returns-in-HcrtmLog-clause-fault
returns-in-HcrtmLog-clause-fault g c =
    let inputs = g.F.Files.inputs c.args.files.now in
    IfErr-weaker c.after_loaded.result _ _
    (either_so (λ fault is. inl (not_loaded inputs (location_of c.args.list) _ fault (ap location_of c.in-HcrtmLog.is) is)) (λ fault is. is))
    c.after_loaded.ensures.fault
