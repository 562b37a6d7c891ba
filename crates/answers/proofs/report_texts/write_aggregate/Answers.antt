use Rattle.answers.proofs.report_texts.write_aggregate.Goals as goal

pub returns : goal.returns
returns g c = rw (c.as_bytes-word.ensures.value, c.aggregate_word.ensures) at c.send_pieces.ensures
