use Rattle.std.proofs.Common.{refl}
use Rattle.rendering.proofs.fault_lines.memory_line.Goals as goal

pub returns : goal.returns
returns c = refl
