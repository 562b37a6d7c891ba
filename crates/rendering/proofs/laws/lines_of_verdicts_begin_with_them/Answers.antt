use Rattle.rendering.proofs.SummaryLineLaws.{begins_with_word, match_alone}
use Rattle.rendering.proofs.laws.lines_of_verdicts_begin_with_them.Goals as goal

pub returns : goal.returns
returns c = record { word = begins_with_word; alone = match_alone }
