use Rattle.cells.proofs.CellLaws.{joined}
use Rattle.answers.proofs.prefix.show_prefix_counts.Goals as goal

pub returns : goal.returns
returns c =
    joined c.in_ok-show_counts.ensures (joined c.in_ok-show_confirmed.ensures c.show_unconfirmed.ensures)
