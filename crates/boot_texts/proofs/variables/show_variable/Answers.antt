use Rattle.cells.proofs.CellLaws.{joined}
use Rattle.boot_texts.proofs.variables.show_variable.Goals as goal

pub returns : goal.returns
returns c = joined c.in_ok-number.ensures c.show_content.ensures
