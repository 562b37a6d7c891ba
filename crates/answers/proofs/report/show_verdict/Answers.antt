use Rattle.cells.proofs.CellLaws.{joined}
use Rattle.answers.proofs.report.show_verdict.Goals as goal

pub returns : goal.returns
returns c = joined (rw (c.verdict_word-word.ensures, c.is_all_known.ensures) at c.in_ok-word.ensures) c.text.ensures
