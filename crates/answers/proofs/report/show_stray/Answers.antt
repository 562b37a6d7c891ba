use Rattle.cells.proofs.CellLaws.{in_object, joined}
use Rattle.answers.proofs.report.show_stray.Goals as goal

pub returns : goal.returns
returns c =
    in_object c.in_ok-begin.ensures (joined c.in_ok-number.ensures (joined c.in_ok-number-2.ensures c.in_ok-text.ensures)) c.end.ensures
