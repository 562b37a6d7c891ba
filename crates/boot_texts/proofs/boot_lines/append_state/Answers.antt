use Rattle.boot_texts.proofs.boot_lines.append_state.Goals as goal

pub returns : goal.returns
returns c = rw c.state_word.ensures at c.append_word.ensures
