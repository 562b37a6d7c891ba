use Rattle.boot_texts.proofs.boot_lines.append_texts.Goals as goal

pub returns-in-Some : goal.returns-in-Some
returns-in-Some c = rw c.in-Some.is c.append_answers.ensures

pub returns-in-None : goal.returns-in-None
returns-in-None c = rw c.in-None.is c.append_claims.ensures
