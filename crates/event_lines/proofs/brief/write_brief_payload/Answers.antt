use Rattle.event_lines.proofs.brief.write_brief_payload.Goals as goal

pub returns-in-None : goal.returns-in-None
returns-in-None c = rw (← c.in-None.ensures.value) c.write_brief.ensures
