use Rattle.cells.proofs.CellLaws.{in_list, joined}
use Rattle.answers.proofs.report.show_numbers.Goals as goal

pub returns : goal.returns
returns c =
    let numbers = rw c.deref.ensures.value at c.in_ok-show_each.ensures in
    joined c.in_ok-number.ensures (joined c.in_ok-text.ensures (in_list c.in_ok-list.ensures numbers c.end_list.ensures))
