use Rattle.judging.specs.Requests.{location_of}
use Rattle.hints.proofs.OldLaws.{left_by}
use Rattle.hints.proofs.old_aggregates.registers_after.Goals as goal

pub returns-in-Ok-clause-left : goal.returns-in-Ok-clause-left
returns-in-Ok-clause-left g c =
    left_by (g.F.Files.inputs c.args.files.now) (location_of c.args.log) _ _ c.in-Ok.ensures.answer c.registers_in.ensures
