use Rattle.std.proofs.Common.{[], refl}
use Rattle.boot_verdict.proofs.checkpoint.Checkpoint.before_list.Goals as goal

pub returns-clause-checkpoint : goal.returns-clause-checkpoint
returns-clause-checkpoint c = (c.after.ensures.known [] c.new.ensures.replays refl).0
