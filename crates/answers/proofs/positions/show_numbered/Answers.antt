use Rattle.cells.proofs.CellLaws.{joined}
use Rattle.answers.proofs.positions.show_numbered.Goals as goal

pub returns : goal.returns
returns c = joined c.in_ok-word_member.ensures c.number.ensures
