use Rattle.cells.proofs.CellLaws.{joined}
use Rattle.answers.proofs.quoted.show_firmware.Goals as goal

pub returns : goal.returns
returns c =
    joined c.in_ok-number.ensures c.text.ensures
