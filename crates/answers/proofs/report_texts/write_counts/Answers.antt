use Rattle.answers.proofs.report_texts.write_counts.Goals as goal

pub returns : goal.returns
returns g c =
    rw (c.as_bytes.ensures.value, c.format.ensures.text, c.as_bytes-2.ensures.value, c.format-2.ensures.text, c.as_bytes-3.ensures.value, c.format-3.ensures.text)
    at c.send_pieces.ensures
