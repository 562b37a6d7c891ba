use Rattle.std.proofs.Common.{refl}
use Rattle.cells.proofs.WrittenLaws.{single}
use Rattle.cells.proofs.members.write_flag.Goals as goal

pub returns : goal.returns
returns c = single c.in_ok-key.ensures c.in_ok-boolean.ensures refl
