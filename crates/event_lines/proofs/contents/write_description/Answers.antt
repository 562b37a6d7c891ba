use Rattle.event_lines.proofs.contents.write_description.Goals as goal

pub returns-in-Some : goal.returns-in-Some
returns-in-Some c = rw c.in-Some.is c.write_shown.ensures
