use Rattle.std.proofs.Common.{rules}
use Rattle.measuring.proofs.MeasuringLaws.{file_measure, name_at}
use Rattle.measuring.proofs.named_files.NamedFilesJobs.operation.Goals as goal

pub returns : goal.returns
returns g c =
    file_measure _ c.args.self.now.names.now c.args.alg c.args.job _ c.in-Ok.digest _ _ (name_at c.args.self.now.names.now c.args.job _ c.requires)
    c.in-Ok.ensures.hashed (search rules) c.empty.ensures
