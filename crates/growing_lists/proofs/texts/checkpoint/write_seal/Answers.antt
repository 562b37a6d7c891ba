use Rattle.growing_lists.proofs.texts.checkpoint.write_seal.Goals as goal

pub returns : goal.returns
returns g c = rw c.digits_of-digits.ensures at c.send_pieces.ensures
