use Rattle.growing_lists.proofs.laws.aggregate_is_a_hash.Goals as goal

pub returns-in-Some : goal.returns-in-Some
returns-in-Some c = rw c.in-Some.is (c.digest_is_a_hash.ensures.size, c.digest_is_a_hash.ensures.bytes)

pub returns-in_default : goal.returns-in_default
returns-in_default c = rw c.in_default.is tt
