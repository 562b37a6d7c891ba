use Rattle.cells.proofs.CellLaws.{in_list}
use Rattle.answers.proofs.registers.show_expected.Goals as goal

pub returns : goal.returns
returns c = in_list c.in_ok-list.ensures c.in_ok-show_all.ensures c.end_list.ensures
