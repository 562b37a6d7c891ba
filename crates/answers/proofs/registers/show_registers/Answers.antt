use Rattle.cells.proofs.CellLaws.{in_list}
use Rattle.answers.proofs.registers.show_registers.Goals as goal

pub returns : goal.returns
returns c = in_list c.in_ok-list.ensures c.in_ok-show_changed.ensures c.end_list.ensures
