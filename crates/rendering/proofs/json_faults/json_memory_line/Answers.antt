use Rattle.std.proofs.Common.{refl}
use Rattle.json.specs.Print.{escape_byte, print_from}
use Rattle.cells.specs.Cells.{beside, object_at}
use Rattle.rendering.proofs.json_faults.json_memory_line.Goals as goal

pub returns : goal.returns
unfolding print_from escape_byte beside object_at
returns c = refl
