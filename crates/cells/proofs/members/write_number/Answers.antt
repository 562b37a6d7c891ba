use Rattle.std.proofs.Common.{refl}
use Rattle.cells.proofs.WrittenLaws.{single}
use Rattle.cells.proofs.members.write_number.Goals as goal

pub returns : goal.returns
returns c = single c.in_ok-key.ensures c.in_ok-u64.ensures refl
