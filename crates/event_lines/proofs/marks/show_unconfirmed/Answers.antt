use Rattle.cells.proofs.CellLaws.{joined}
use Rattle.event_lines.proofs.marks.show_unconfirmed.Goals as goal

pub returns : goal.returns
returns c = joined c.in_ok-text.ensures c.word_member.ensures
