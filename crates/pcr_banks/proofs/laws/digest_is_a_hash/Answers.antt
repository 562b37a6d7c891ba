use Rattle.pcr_banks.proofs.laws.digest_is_a_hash.Goals as goal

pub returns-clause-size : goal.returns-clause-size
returns-clause-size c = rw c.bytes.ensures.value at c.bytes.ensures.size

pub returns-clause-bytes : goal.returns-clause-bytes
returns-clause-bytes c = rw c.bytes.ensures.value at c.are_bytes.ensures
