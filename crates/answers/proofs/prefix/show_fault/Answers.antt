use Rattle.cells.proofs.CellLaws.{in_object_at, joined}
use Rattle.answers.proofs.prefix.show_fault.Goals as goal

pub returns : goal.returns
returns c =
    let kind = rw c.kind.ensures at c.in_ok-word_member.ensures in
    let number = rw c.number.ensures at c.in_ok-number_member.ensures in
    let entry = rw c.entry.ensures at c.in_ok-show_entry.ensures in
    let message = rw (c.deref.ensures, c.in_ok-message.ensures) at c.in_ok-word.ensures in
    joined (in_object_at c.in_ok-object.ensures (joined kind (joined number (joined entry message))) c.in_ok-end.ensures) c.text.ensures
