use Rattle.cells.proofs.CellLaws.{joined}
use Rattle.event_lines.proofs.marks.show_named.Goals as goal

pub returns : goal.returns
returns c =
    let name = rw c.name.ensures at c.in_ok-text-2.ensures in
    joined c.in_ok-text.ensures (joined name (rw (c.name-2.ensures, c.part_name.ensures) at c.word.ensures))
