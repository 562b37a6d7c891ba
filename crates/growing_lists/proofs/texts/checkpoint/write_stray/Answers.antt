use Rattle.growing_lists.proofs.texts.checkpoint.write_stray.Goals as goal

pub returns : goal.returns
returns g c =
    rw (
      c.as_bytes.ensures.value,
      c.format.ensures.text,
      c.as_bytes-2.ensures.value,
      c.format-2.ensures.text,
      c.numbers_of-register.ensures.0,
      c.numbers_of-register.ensures.1,
    ) at c.send_pieces.ensures
