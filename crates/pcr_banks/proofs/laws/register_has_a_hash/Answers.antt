use Rattle.pcr_banks.specs.Names.{value_at}
use Rattle.pcr_banks.proofs.BankLaws.{read_hash}
use Rattle.pcr_banks.proofs.laws.register_has_a_hash.Goals as goal

pub returns-in-Some-clause-hash : goal.returns-in-Some-clause-hash
returns-in-Some-clause-hash c =
    read_hash c.args.alg (value_at c.args.banks.now c.args.alg c.args.index) c.in-Some.value c.in-Some.ensures.value
    c.digest_is_a_hash.ensures.size c.digest_is_a_hash.ensures.bytes
