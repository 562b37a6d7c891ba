use Rattle.cells.proofs.CellLaws.{in_object, joined}
use Rattle.answers.proofs.registers.show_value.Goals as goal

pub returns : goal.returns
returns c =
    in_object c.in_ok-begin.ensures
    (joined c.in_ok-show_register.ensures (joined (rw c.bytes.ensures.value at c.in_ok-hex.ensures) c.in_ok-text.ensures)) c.end.ensures
