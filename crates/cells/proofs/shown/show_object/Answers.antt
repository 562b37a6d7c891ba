use Rattle.cells.proofs.CellLaws.{in_object}
use Rattle.cells.proofs.shown.show_object.Goals as goal

pub returns : goal.returns
returns g c = in_object c.in_ok-begin.ensures c.in_ok-show.ensures c.end.ensures
