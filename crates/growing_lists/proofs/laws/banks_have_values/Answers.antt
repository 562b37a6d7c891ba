use Rattle.growing_lists.proofs.laws.banks_have_values.Goals as goal

pub returns : goal.returns
returns c = record { whole = c.registers_have_hashes.ensures.whole; sized = c.registers_have_hashes.ensures.hashes }
