use Rattle.boot_texts.proofs.claims.append_line.Goals as goal

pub returns : goal.returns
returns c = c.append.ensures.ok
