use Rattle.rendering.proofs.FaultCellLaws.{text_is_line}
use Rattle.rendering.proofs.laws.fault_lines_are_of_cells.Goals as goal

pub returns : goal.returns
returns c = text_is_line
