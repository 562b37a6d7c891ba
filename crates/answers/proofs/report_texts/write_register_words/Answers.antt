use Rattle.answers.proofs.report_texts.write_register_words.Goals as goal

pub returns : goal.returns
returns g c = rw (c.as_bytes-name.ensures.value, c.name.ensures, c.as_bytes-register.ensures.value, c.format.ensures.text) at c.send_pieces.ensures
