use Rattle.event_lines.proofs.marks.show_confirmed.Goals as goal

pub returns-in-Some : goal.returns-in-Some
returns-in-Some c = rw c.in-Some.is (rw c.part_name.ensures at c.word.ensures)
