use Rattle.event_lines.proofs.register_names.show_register_name.Goals as goal

pub returns-in-Some : goal.returns-in-Some
returns-in-Some c = rw c.in-Some.is c.show_name.ensures
