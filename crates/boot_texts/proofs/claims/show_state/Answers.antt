use Rattle.cells.proofs.CellLaws.{joined}
use Rattle.boot_texts.proofs.claims.show_state.Goals as goal

pub returns : goal.returns
returns c = joined (rw c.state_word.ensures at c.in_ok-word.ensures) c.text.ensures
