use Rattle.cells.proofs.CellLaws.{in_list, joined}
use Rattle.answers.proofs.quoted.show_stated.Goals as goal

pub returns : goal.returns
returns c =
    let banks = rw c.deref.ensures.value at c.in_ok-show_selections.ensures in
    let signer = rw c.deref-2.ensures.value at c.in_ok-show_signer.ensures in
    joined (in_list c.in_ok-list.ensures banks c.in_ok-end_list.ensures) (joined signer (joined c.in_ok-show_clock.ensures c.show_firmware.ensures))
