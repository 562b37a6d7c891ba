use Rattle.cells.proofs.CellLaws.{in_list, joined}
use Rattle.answers.proofs.quoted.show_bank.Goals as goal

pub returns : goal.returns
returns c =
    let bank = rw c.name.ensures at c.in_ok-word.ensures in
    joined bank (joined (in_list c.in_ok-list.ensures c.in_ok-show_numbers.ensures c.in_ok-end_list.ensures) c.text.ensures)
