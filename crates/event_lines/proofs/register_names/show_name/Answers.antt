use Rattle.cells.proofs.CellLaws.{joined}
use Rattle.event_lines.proofs.register_names.show_name.Goals as goal

pub returns : goal.returns
returns c = joined c.in_ok-text.ensures (joined c.in_ok-word.ensures c.text-2.ensures)
