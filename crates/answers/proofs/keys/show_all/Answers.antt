use Rattle.cells.proofs.CellLaws.{joined}
use Rattle.answers.proofs.keys.show_all.Goals as goal

pub returns : goal.returns
returns c =
    let pem = rw c.deref.ensures at c.word.ensures in
    joined c.in_ok-show_name.ensures (joined c.in_ok-show_kind.ensures (joined c.in_ok-show_scheme.ensures pem))
