use Rattle.std.proofs.Common.{refl}
use Rattle.cells.specs.Cells.{object_at}
use Rattle.rendering.proofs.FaultCellLaws.{fault_is_one}
use Rattle.rendering.proofs.laws.each_fault_is_one_line.Goals as goal

pub returns : goal.returns
unfolding object_at
returns c = record { line = fault_is_one; member = λ fault. refl }
