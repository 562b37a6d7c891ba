use Rattle.cells.proofs.CellLaws.{joined}
use Rattle.rendering.proofs.json_faults.show_told.Goals as goal

pub returns : goal.returns
returns c =
    let head = c.head-head.ensures in
    let kind = rw (c.said_of.ensures.name, head) at c.in_ok-word_member.ensures in
    let number = rw (c.widened.ensures, head) at c.in_ok-show_number.ensures in
    let place = rw head at c.in_ok-show_place.ensures in
    let message = joined (rw (c.deref.ensures, c.in_ok-message.ensures) at c.in_ok-word.ensures) c.text.ensures in
    joined kind (joined number (joined place message))
