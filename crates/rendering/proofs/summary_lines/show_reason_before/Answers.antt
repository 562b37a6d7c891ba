use Rattle.cells.proofs.CellLaws.{joined}
use Rattle.rendering.proofs.summary_lines.show_reason_before.Goals as goal

pub returns : goal.returns
returns c = joined c.in_ok-show_reason.ensures c.text.ensures
