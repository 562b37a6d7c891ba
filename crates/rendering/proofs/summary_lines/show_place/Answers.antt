use Rattle.cells.proofs.CellLaws.{joined}
use Rattle.rendering.proofs.summary_lines.show_place.Goals as goal

pub returns : goal.returns
returns c = joined c.in_ok-count.ensures (joined c.in_ok-text.ensures (joined (rw c.name.ensures at c.in_ok-text-2.ensures) c.text-3.ensures))
