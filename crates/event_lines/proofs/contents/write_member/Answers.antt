use Rattle.event_lines.proofs.contents.write_member.Goals as goal

pub returns-in-Image : goal.returns-in-Image
returns-in-Image c = rw c.in-Image.is c.write_image.ensures

pub returns-in-Variable : goal.returns-in-Variable
returns-in-Variable c = rw c.in-Variable.is c.write_variable.ensures

pub returns-in-Handoff : goal.returns-in-Handoff
returns-in-Handoff c = rw c.in-Handoff.is c.write_handoff.ensures

pub returns-in-Technology : goal.returns-in-Technology
returns-in-Technology c = rw c.in-Technology.is c.write_number-in-Technology.ensures
