use Rattle.cells.proofs.CellLaws.{joined}
use Rattle.boot_texts.proofs.images.show_named.Goals as goal

pub returns : goal.returns
returns c =
    let name = rw c.name.ensures at c.in_ok-text.ensures in
    let digits = rw (c.name-2.ensures, c.bytes.ensures.value) at c.in_ok-hex.ensures in
    joined name (joined digits c.text-2.ensures)
