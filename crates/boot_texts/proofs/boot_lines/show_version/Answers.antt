use Rattle.boot_texts.proofs.boot_lines.show_version.Goals as goal

pub returns-in-None : goal.returns-in-None
returns-in-None c = rw c.in-None.is c.show_word.ensures
