use Rattle.event_lines.proofs.brief.write_brief_member.Goals as goal

pub returns-in-Image : goal.returns-in-Image
returns-in-Image c = rw c.in-Image.is c.write_brief_image.ensures

pub returns-in-Variable : goal.returns-in-Variable
returns-in-Variable c = rw c.in-Variable.is c.write_brief_variable.ensures
