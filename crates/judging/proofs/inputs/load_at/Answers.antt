use Rattle.judging.proofs.OpeningLaws.{replayed_is_held}
use Rattle.judging.proofs.inputs.load_at.Goals as goal

pub returns-in_ok-log-in-HcrtmLog-clause-all : goal.returns-in_ok-log-in-HcrtmLog-clause-all
returns-in_ok-log-in-HcrtmLog-clause-all g c =
    rw c.in-HcrtmLog.is
    (replayed_is_held (g.F.Files.inputs c.args.files.now) c.in-HcrtmLog.name.now c.in_ok-log-in-HcrtmLog.log.items c.in_ok-log-in-HcrtmLog.ensures.all)
