use Rattle.answers.proofs.rows.show_value.Goals as goal

pub returns : goal.returns
returns c = rw c.bytes.ensures.value at c.hex_member.ensures
