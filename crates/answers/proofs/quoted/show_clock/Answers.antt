use Rattle.cells.proofs.CellLaws.{in_object_at, joined}
use Rattle.answers.proofs.quoted.show_clock.Goals as goal

pub returns : goal.returns
returns c =
    let safe = rw c.safe_text.ensures at c.in_ok-text.ensures in
    in_object_at c.in_ok-object.ensures
    (joined c.in_ok-number.ensures (joined c.in_ok-number-2.ensures (joined c.in_ok-number-3.ensures (joined c.in_ok-flag_member.ensures safe))))
    c.end.ensures
