use Rattle.cells.proofs.CellLaws.{joined}
use Rattle.rendering.proofs.summary_lines.show_of_pcr.Goals as goal

pub returns : goal.returns
returns c = joined c.in_ok-show_pcr.ensures c.text.ensures
